-- A known place is a part of a record.
use Rattle.std.proofs.Common.{◌≡◌, ℕ, zero, suc, ◌<◌, Bool, List, [], ◌∷◌, length, map, Option, None, Some, refl, sym, ap, subst, ◌∙◌, slice_get, get_or, arith}
use Rattle.std.specs.Prelude.{option_map, option_and_then, unwrap_or}
use Rattle.cx_type_defs.proofs.Lists.{some_inj, option_map-some, option_and_then-some}
use Rattle.cx_type_defs.specs.declared.ids.Step.{Step}
use Rattle.cx_type_defs.specs.declared.ids.Step.TheVariants as step
use Rattle.cx_type_defs.specs.declared.ids.ClassId.{ClassId}
use Rattle.cx_type_defs.specs.declared.kind.TypeRow.{TypeRow}
use Rattle.cx_type_defs.specs.declared.kind.TypeKind.{TypeKind}
use Rattle.cx_type_defs.specs.declared.kind.TypeKind.TheVariants as kind
use Rattle.cx_type_defs.specs.Tables.{Tables, base_of}
use Rattle.cx_state.specs.Objects.{Object}
use Rattle.cx_state.specs.Places.{row_below, root_row, row_of, spot, spot_of, spot_row, index_row, base_row}
use Rattle.cx_state.specs.Forms.{Knows}
use Rattle.cx_state.proofs.Complete.{is_some-true}
use Rattle.cx_records.specs.declared.place.Place.{Place}
use Rattle.cx_records.specs.declared.record.Record.{Record}
use Rattle.cx_records.specs.Records.{steps_of, is_past, nowhere, path_in, record_form, forms_in, object_in, objects_of}

pub get_map : {A B : Type 0} (f : A → B) (xs : List A) (i : ℕ) → slice_get (map f xs) i ≡ option_map f (slice_get xs i)
get_map f [] i = refl
get_map f (x ∷ xs) zero = refl
get_map f (x ∷ xs) (suc i) = get_map f xs i

pub length_map : {A B : Type 0} (f : A → B) (xs : List A) → length (map f xs) ≡ length xs
length_map f [] = refl
length_map f (x ∷ xs) = ap suc (length_map f xs)

pub get_at : {A : Type 0} (xs : List A) (i : ℕ) → i < length xs → (x : A) × (slice_get xs i ≡ Some x)
get_at [] i h = absurd (omega arith)
get_at (x ∷ xs) zero h = (x, refl)
get_at (x ∷ xs) (suc i) h = get_at xs i (omega arith)

pub get_within : {A : Type 0} (xs : List A) (i : ℕ) (x : A) → slice_get xs i ≡ Some x → i < length xs
get_within [] i x e = absurd (cc)
get_within (a ∷ xs) zero x e = omega arith
get_within (a ∷ xs) (suc i) x e = omega (arith, get_within xs i x e)

-- a base has no elements

pub no_base_part : (t : Tables) (past : Bool) (o : Option ClassId) → option_and_then (index_row t past 0) (option_and_then (λ (q : TypeRow). row_below t q []) (option_map base_row o)) ≡ None
no_base_part t past None = refl
no_base_part t past (Some c) = refl

pub nowhere_unknown : (t : Tables) (past : Bool) (r : TypeRow) → spot_row t past (spot_of past nowhere) r ≡ None
nowhere_unknown t past r = go r.kind
  where
    go : (k : TypeKind) → option_and_then (index_row t past 0) (row_below t (record { kind = k; konst = r.konst }) (step.Base 0 ∷ [])) ≡ None
    go (kind.Class c) = no_base_part t past (base_of t c 0)
    go kind.Void = refl
    go kind.Nullptr = refl
    go (kind.Int _) = refl
    go (kind.Enum _) = refl
    go (kind.Pointer _) = refl
    go (kind.Reference _) = refl
    go (kind.Array _ _) = refl

pub record Placed (t : Tables) (rs : List Record) (p : Place) : Type 0 where
  pub rec : Record
  pub is_rec : slice_get rs p.object ≡ Some rec
  pub steps : List Step
  pub are_steps : steps_of p (record_form rec) ≡ Some steps
  pub is_path : path_in (forms_in rs) p ≡ record { object = p.object; steps = steps; past = is_past p.end }
  pub here : slice_get (objects_of rs) p.object ≡ Some (object_in (forms_in rs) rec)
  pub root : TypeRow
  pub is_root : root_row t (object_in (forms_in rs) rec) ≡ Some root
  pub row : TypeRow
  pub is_row : spot_row t (is_past p.end) (spot_of (is_past p.end) steps) root ≡ Some row
  pub at_place : row_of t (objects_of rs) (path_in (forms_in rs) p) ≡ Some row

pub placed : (t : Tables) (rs : List Record) (p : Place) → Knows t (objects_of rs) (path_in (forms_in rs) p) → Placed t rs p
placed t rs p k =
    let all = is_some-true (row_of t (objects_of rs) (path_in (forms_in rs) p)) k in
    let path = path_in (forms_in rs) p in
    let x = option_and_then-some (λ (o : Object). option_and_then (spot_row t path.past (spot path)) (root_row t o)) (slice_get (objects_of rs) p.object) all.0 all.1 in
    let y = option_and_then-some (spot_row t path.past (spot path)) (root_row t x.0) all.0 x.2 in
    let r = option_map-some (object_in (forms_in rs)) (slice_get rs p.object) x.0 (sym (get_map (object_in (forms_in rs)) rs p.object) ∙ x.1) in
    let f : slice_get (forms_in rs) p.object ≡ Some (record_form r.0) = get_map record_form rs p.object ∙ ap (option_map record_form) r.1 in
    let q : option_and_then (steps_of p) (slice_get (forms_in rs) p.object) ≡ steps_of p (record_form r.0) = ap (option_and_then (steps_of p)) f in
    go all.0 all.1 x.0 y.0 y.1 r.0 r.1 r.2 (steps_of p (record_form r.0)) q refl
    (subst (λ o. spot_row t (is_past p.end) (spot_of (is_past p.end) (unwrap_or o nowhere)) y.0 ≡ Some all.0) q y.2)
  where
    go : (row : TypeRow) → row_of t (objects_of rs) (path_in (forms_in rs) p) ≡ Some row → (o : Object) (root : TypeRow) → root_row t o ≡ Some root
        → (rec : Record) → slice_get rs p.object ≡ Some rec → object_in (forms_in rs) rec ≡ o
        → (s : Option (List Step)) → option_and_then (steps_of p) (slice_get (forms_in rs) p.object) ≡ s → steps_of p (record_form rec) ≡ s
        → spot_row t (is_past p.end) (spot_of (is_past p.end) (unwrap_or s nowhere)) root ≡ Some row → Placed t rs p
    go row at o root is_root rec is_rec same None q s e = absurd (none_some (sym (nowhere_unknown t (is_past p.end) root) ∙ e))
      where
        none_some : {A : Type 0} {a : A} → None ≡ Some a → ⊥
        none_some e = cc
    go row at o root is_root rec is_rec same (Some ss) q s e = record {
      rec = rec;
      is_rec = is_rec;
      steps = ss;
      are_steps = s;
      is_path = ap (λ x. record { object = p.object; steps = unwrap_or x nowhere; past = is_past p.end }) q;
      here = get_map (object_in (forms_in rs)) rs p.object ∙ ap (option_map (object_in (forms_in rs))) is_rec;
      root = root;
      is_root = ap (root_row t) same ∙ is_root;
      row = row;
      is_row = e;
      at_place = at;
    }

pub get_or_is : {A : Type 0} (xs : List A) (n : ℕ) (x d : A) → slice_get xs n ≡ Some x → get_or xs n d ≡ x
get_or_is [] n x d e = absurd (cc)
get_or_is (a ∷ xs) zero x d e = some_inj a x e
get_or_is (a ∷ xs) (suc n) x d e = get_or_is xs n x d e

-- the item that an index lends
pub lent : {A : Type 0} (xs : List A) (n : ℕ) (x y : A) → slice_get xs n ≡ Some x → y ≡ get_or xs n y → slice_get xs n ≡ Some y
lent xs n x y e h = e ∙ ap Some (sym (h ∙ get_or_is xs n x y e))
