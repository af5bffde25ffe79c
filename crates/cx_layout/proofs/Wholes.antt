-- The columns of a complete type describe its form, and lists of descriptors keep what each of them says.
use Rattle.std.proofs.Common.{◌≡◌, ℕ, zero, suc, ◌+◌, ◌*◌, ◌≤◌, ◌<◌, ◌==◌, nat_lt, ltb-false, eqb-true, eq-eqb, inl, inr, true≢false, Bool, true, false, List, [], ◌∷◌, ◌++◌, length, take, Option, None, Some, refl, sym, ap, subst, ◌∙◌, arith, slice_get, get_or, if◌then◌else◌}
use Rattle.std.specs.Prelude.{option_map, unwrap_or}
use Rattle.std.proofs.Math.Nat.{mul-le-mul_left, mul-le-mul_right}
use Rattle.std.proofs.lemmas.Bool.{ltb-true, cases_Bool}
use Rattle.cx_type_defs.specs.declared.ids.TypeId.{TypeId}
use Rattle.cx_type_defs.specs.Tables.{Tables}
use Rattle.cx_type_defs.specs.Questions.{OfType, asked, cells_of, most_levels, is_complete}
use Rattle.cx_type_defs.specs.Sound.{Sound}
use Rattle.cx_layout.specs.declared.columns.Under.{Under}
use Rattle.cx_layout.specs.declared.columns.Node.{Node}
use Rattle.cx_layout.specs.declared.columns.Descriptor.{Descriptor}
use Rattle.cx_layout.specs.Forms.{Form, Leaf, Row, Class, cells, nodes, Full, PartsFull}
use Rattle.cx_layout.specs.TypeForms.{object_of, object_form, object_cells, form_in}
use Rattle.cx_layout.specs.Laid.{form_of}
use Rattle.cx_layout.specs.Laying.{HasRoom, Lays, LaysForm, element_cells}
use Rattle.cx_layout.specs.Described.{Described, IsDescribed, AllDescribed, IsOf, AreOf, descriptor_form, form_at, is_for, number_in}
use Rattle.cx_layout.proofs.Options.{some_inj}
use Rattle.cx_layout.proofs.Telling.{laid_form}
use Rattle.cx_layout.proofs.WaysBack.{full_parts}
use Rattle.cx_layout.proofs.Complete.{FormTold, form_told}

levels_is : most_levels ≡ 512
unfolding most_levels
levels_is = refl

whole_read : (ns : List Node) (ks : List ℕ) (u : Under) (f : Form) (c : ℕ) → Lays [] [] ns ks u f c → form_of ns ks ≡ f
unfolding form_of
whole_read ns ks u f c h = let n = h.as_many in laid_form ns ks 0 f (length ns) (omega arith) h.laid

whole_described : (ns : List Node) (ks : List ℕ) (u : Under) (f : Form) (c : ℕ) → Lays [] [] ns ks u f c → PartsFull f → cells f ≤ 1073741824 → nodes f ≤ 1048577 → Described ns ks (form_of ns ks)
whole_described ns ks u f c h full few small =
    let n = h.as_many in
    subst (Described ns ks) (sym (whole_read ns ks u f c h)) (record { laid = h.laid; full = full; few_cells = few; few_nodes = small; few_rows = omega arith })

object_is : (t : Tables) (ty : TypeId) (n : Option ℕ) (f : Form) → form_in t most_levels (OfType ty) ≡ Some f → object_form t ty n ≡ Some (object_of n f)
unfolding object_form
object_is t ty n f e = ap (option_map (object_of n)) e

module _ (t : Tables) (ty : TypeId) (s : Sound t) (complete : is_complete t ty ≡ true) where
  told : FormTold t ty
  told = form_told t ty s complete

  is_form : form_in t 512 (OfType ty) ≡ Some told.form
  is_form = ap (λ n. form_in t n (OfType ty)) (sym levels_is) ∙ told.is_form

  element_small : (f : Form) → Full f → cells f ≤ 1073741824 → element_cells f ≤ 1073741824
  element_small Leaf h l = omega arith
  element_small (Row n f) h l = let b : 1 ≤ n = h.0 in let d : 1 * cells f ≤ n * cells f = mul-le-mul_right (cells f) b in omega arith
  element_small (Class k u bs ms) h l = omega arith

  pub piece_room : (ns : List Node) (ks : List ℕ) → ns ≡ [] → ks ≡ [] → HasRoom ns ks 0 (form_in t 512 (OfType ty))
  piece_room ns ks a b =
      let m = told.most_cells in
      let k = told.few_nodes in
      subst (λ l. HasRoom l ks 0 (form_in t 512 (OfType ty))) (sym a) (subst (λ l. HasRoom [] l 0 (form_in t 512 (OfType ty))) (sym b) (subst (HasRoom [] [] 0) (sym is_form)
      (record { few_nodes = omega arith; few_parts = omega arith; few_cells = omega arith; few_element_cells = element_small told.form told.full m; full = full_parts told.form told.full })))

  array_small : (n : ℕ) → object_cells t ty (Some n) ≤ 1073741824 → n * cells told.form ≤ 1073741824
  array_small n h = let a : n * cells told.form ≤ n * unwrap_or (asked cells_of t (OfType ty)) 0 = mul-le-mul_left n told.few_cells in omega arith

  pub array_room : (n : ℕ) (ns : List Node) (ks : List ℕ) → ns ≡ [] → ks ≡ [] → object_cells t ty (Some n) ≤ 1073741824 → HasRoom ns ks 0 (option_map (Row n) (form_in t 512 (OfType ty)))
  array_room n ns ks a b h =
      let m = told.most_cells in
      let k = told.few_nodes in
      let w = array_small n h in
      subst (λ l. HasRoom l ks 0 (option_map (Row n) (form_in t 512 (OfType ty)))) (sym a) (subst (λ l. HasRoom [] l 0 (option_map (Row n) (form_in t 512 (OfType ty)))) (sym b) (subst (λ o. HasRoom [] [] 0 (option_map (Row n) o)) (sym is_form)
      (record { few_nodes = omega arith; few_parts = omega arith; few_cells = omega arith; few_element_cells = m; full = told.full })))

  module _ (ns ms : List Node) (ks js : List ℕ) (u : Under) (c : ℕ) (a : ns ≡ []) (b : ks ≡ []) where
    pub piece_form : LaysForm ns ks ms js u (form_in t 512 (OfType ty)) c → (object_form t ty None ≡ Some (form_of ms js)) × Described ms js (form_of ms js)
    piece_form h =
        let l : Lays [] [] ms js u told.form c = subst (λ k. LaysForm [] [] ms js u k c) is_form (subst (λ k. LaysForm [] k ms js u (form_in t 512 (OfType ty)) c) b (subst (λ k. LaysForm k ks ms js u (form_in t 512 (OfType ty)) c) a h)) in
        let k = told.few_nodes in
        (object_is t ty None told.form told.is_form ∙ ap Some (sym (whole_read ms js u told.form c l)), whole_described ms js u told.form c l (full_parts told.form told.full) told.most_cells (omega arith))

    pub array_form : (n : ℕ) → object_cells t ty (Some n) ≤ 1073741824 → LaysForm ns ks ms js u (option_map (Row n) (form_in t 512 (OfType ty))) c → (object_form t ty (Some n) ≡ Some (form_of ms js)) × Described ms js (form_of ms js)
    array_form n few h =
        let l : Lays [] [] ms js u (Row n told.form) c = subst (λ k. LaysForm [] [] ms js u (option_map (Row n) k) c) is_form (subst (λ k. LaysForm [] k ms js u (option_map (Row n) (form_in t 512 (OfType ty))) c) b (subst (λ k. LaysForm k ks ms js u (option_map (Row n) (form_in t 512 (OfType ty))) c) a h)) in
        let k = told.few_nodes in
        (object_is t ty (Some n) told.form told.is_form ∙ ap Some (sym (whole_read ms js u (Row n told.form) c l)), whole_described ms js u (Row n told.form) c l told.full (array_small n few) (omega arith))

-- lists of descriptors

pub all_take : (n : ℕ) (ds : List Descriptor) → AllDescribed ds → AllDescribed (take n ds)
all_take zero ds h = tt
all_take (suc n) [] h = tt
all_take (suc n) (d ∷ ds) h = (h.0, all_take n ds h.1)

pub take_length : (n : ℕ) (ds : List Descriptor) → length (take n ds) ≤ length ds
take_length zero ds = omega arith
take_length (suc n) [] = omega arith
take_length (suc n) (d ∷ ds) = let w = take_length n ds in omega arith

pub all_at : (ds : List Descriptor) (i : ℕ) (d : Descriptor) → AllDescribed ds → slice_get ds i ≡ Some d → IsDescribed d
all_at [] i d h e = absurd (cc)
all_at (x ∷ ds) zero d h e = subst IsDescribed (some_inj x d e) h.0
all_at (x ∷ ds) (suc i) d h e = all_at ds i d h.1 e

pub all_more : (ds : List Descriptor) (d : Descriptor) → AllDescribed ds → IsDescribed d → AllDescribed (ds ++ d ∷ [])
all_more [] d h g = (g, tt)
all_more (x ∷ ds) d h g = (h.0, all_more ds d h.1 g)

pub of_more : (t : Tables) (ds : List Descriptor) (d : Descriptor) → AreOf t ds → IsOf t d → AreOf t (ds ++ d ∷ [])
of_more t [] d h g = (g, tt)
of_more t (x ∷ ds) d h g = (h.0, of_more t ds d h.1 g)

pub of_take : (t : Tables) (ds : List Descriptor) (n : ℕ) → AreOf t ds → AreOf t (take n ds)
of_take t ds zero h = tt
of_take t [] (suc n) h = tt
of_take t (d ∷ ds) (suc n) h = (h.0, of_take t ds n h.1)

pub form_left : (ds : List Descriptor) (n k : ℕ) → k < n → form_at (take n ds) k ≡ form_at ds k
form_left ds zero k l = absurd (omega arith)
form_left [] (suc n) k l = refl
form_left (d ∷ ds) (suc n) zero l = refl
form_left (d ∷ ds) (suc n) (suc k) l = form_left ds n k (omega arith)

pub form_added : (ds es : List Descriptor) (k : ℕ) → k < length ds → form_at (ds ++ es) k ≡ form_at ds k
form_added [] es k l = absurd (omega arith)
form_added (d ∷ ds) es zero l = refl
form_added (d ∷ ds) es (suc k) l = form_added ds es k (omega arith)

pub form_is : (ds : List Descriptor) (n : ℕ) (d : Descriptor) → slice_get ds n ≡ Some d → form_at ds n ≡ descriptor_form d
form_is ds n d e = ap (λ o. unwrap_or (option_map descriptor_form o) Leaf) e

-- the number of a type and length

pub number_found : (ty : TypeId) (c : Option ℕ) (ds : List Descriptor) (i : ℕ) (d : Descriptor) → slice_get ds i ≡ Some d → is_for ty c d ≡ true → ((k : ℕ) (x : Descriptor) → k < i → slice_get ds k ≡ Some x → is_for ty c x ≡ false) → number_in ds ty c ≡ Some i
number_found ty c [] i d e h never = absurd (cc)
number_found ty c (x ∷ ds) zero d e h never = ap (λ b. if b then Some 0 else option_map suc (number_in ds ty c)) (ap (is_for ty c) (some_inj x d e) ∙ h)
number_found ty c (x ∷ ds) (suc i) d e h never =
    ap (λ b. if b then Some 0 else option_map suc (number_in ds ty c)) (never 0 x (omega arith) refl)
    ∙ ap (option_map suc) (number_found ty c ds i d e h (λ k y l g. never (suc k) y (omega arith) g))

pub number_none : (ty : TypeId) (c : Option ℕ) (ds : List Descriptor) → ((k : ℕ) (x : Descriptor) → k < length ds → slice_get ds k ≡ Some x → is_for ty c x ≡ false) → number_in ds ty c ≡ None
number_none ty c [] never = refl
number_none ty c (x ∷ ds) never =
    ap (λ b. if b then Some 0 else option_map suc (number_in ds ty c)) (never 0 x (omega arith) refl)
    ∙ ap (option_map suc) (number_none ty c ds (λ k y l g. never (suc k) y (omega arith) g))

pub get_read : (ds : List Descriptor) (i : ℕ) (d : Descriptor) → i < length ds → d ≡ get_or ds i d → slice_get ds i ≡ Some d
get_read [] i d l e = absurd (omega arith)
get_read (x ∷ ds) zero d l e = ap Some (sym e)
get_read (x ∷ ds) (suc i) d l e = get_read ds i d (omega arith) e

-- what holds of the numbers before one, and of it, holds before the next
pub no_more : (test : Descriptor → Bool) (ds : List Descriptor) (i : ℕ) (d : Descriptor) → ((k : ℕ) (x : Descriptor) → k < i → slice_get ds k ≡ Some x → test x ≡ false) → slice_get ds i ≡ Some d → test d ≡ false → (k : ℕ) (x : Descriptor) → k < i + 1 → slice_get ds k ≡ Some x → test x ≡ false
no_more test ds i d never e p k x l g = elim (cases_Bool (k == i)) as (λ _. test x ≡ false) [
  | inl h ↦ ap test (some_inj x d (sym g ∙ ap (slice_get ds) (eqb-true k i h) ∙ e)) ∙ p
  | inr h ↦ never k x (less k i l h) g
]
  where
    less : (k i : ℕ) → k < i + 1 → (k == i) ≡ false → k < i
    less k i l h = elim (cases_Bool (nat_lt k i)) as (λ _. k < i) [ inl w ↦ ltb-true k i w | inr w ↦ (let v : k ≡ i = equal k i l w in absurd (true≢false (sym (eq-eqb k i v) ∙ h))) ]
      where
        equal : (k i : ℕ) → k < i + 1 → nat_lt k i ≡ false → k ≡ i
        equal k i l w = let v : i ≤ k = ltb-false k i w in omega arith
