-- An array or a class is described once its parts are and its own row is filled.
use Rattle.std.proofs.Common.{◌≡◌, ℕ, zero, suc, ◌+◌, ◌*◌, ◌<◌, Bool, true, false, List, [], ◌∷◌, ◌++◌, length, set, Some, refl, sym, ap, subst, ◌∙◌, arith, slice_get, append_assoc, length-append}
use Rattle.cx_type_defs.specs.declared.ids.Step.TheVariants as step
use Rattle.cx_type_defs.specs.declared.ids.ClassId.{ClassId}
use Rattle.cx_layout.specs.declared.columns.Under.{Under}
use Rattle.cx_layout.specs.declared.columns.Node.{Node}
use Rattle.cx_layout.specs.declared.lay.Group.{Group}
use Rattle.cx_layout.specs.Forms.{Form, Forms, Row, Leaf, Class, End, More, count, nodes, nodes_in, cells_in}
use Rattle.cx_layout.specs.Laid.{kind_of, IsUnder, Listed, Laid, PartsLaid, under}
use Rattle.cx_layout.specs.Laying.{Stays, Room, Lays, LaysAll, GroupRoom, starts}
use Rattle.cx_layout.proofs.Telling.{StaysFrom, get_more, laid_stays, parts_stay, under_stays}
use Rattle.cx_layout.proofs.Laying.{starts_length}

pub get_within : {A : Type 0} (xs : List A) (i : ℕ) (x : A) → slice_get xs i ≡ Some x → i < length xs
get_within [] i x e = absurd (cc)
get_within (a ∷ xs) zero x e = omega arith
get_within (a ∷ xs) (suc i) x e = omega (arith, get_within xs i x e)

pub get_there : {A : Type 0} (xs : List A) (i : ℕ) → i < length xs → (x : A) × (slice_get xs i ≡ Some x)
get_there [] i l = absurd (omega arith)
get_there (a ∷ xs) zero l = (a, refl)
get_there (a ∷ xs) (suc i) l = get_there xs i (omega arith)

set_other : {A : Type 0} (xs : List A) (k i : ℕ) (y x : A) → (i ≡ k → ⊥) → slice_get xs i ≡ Some x → slice_get (set xs k y) i ≡ Some x
set_other [] k i y x n e = absurd (cc)
set_other (a ∷ xs) zero zero y x n e = absurd (n refl)
set_other (a ∷ xs) zero (suc i) y x n e = e
set_other (a ∷ xs) (suc k) zero y x n e = e
set_other (a ∷ xs) (suc k) (suc i) y x n e = set_other xs k i y x (λ z. n (ap suc z)) e

set_same : {A : Type 0} (xs : List A) (k : ℕ) (y : A) → k < length xs → slice_get (set xs k y) k ≡ Some y
set_same [] k y l = absurd (omega arith)
set_same (a ∷ xs) zero y l = refl
set_same (a ∷ xs) (suc k) y l = set_same xs k y (omega arith)

pub set_length : {A : Type 0} (xs : List A) (k : ℕ) (y : A) → length (set xs k y) ≡ length xs
set_length [] k y = refl
set_length (a ∷ xs) zero y = refl
set_length (a ∷ xs) (suc k) y = ap suc (set_length xs k y)

get_last : {A : Type 0} (xs : List A) (y : A) → slice_get (xs ++ y ∷ []) (length xs) ≡ Some y
get_last [] y = refl
get_last (x ∷ xs) y = get_last xs y

pub more_stays : {A : Type 0} (xs ys : List A) → Stays xs (xs ++ ys)
more_stays xs ys i x e = get_more xs ys i x e

one_more : (ns : List Node) (row : Node) → length (ns ++ row ∷ []) ≡ suc (length ns)
one_more ns row = let w = length-append ns (row ∷ []) in omega arith

-- a scalar
pub leaf_lays : (ns : List Node) (ks : List ℕ) (row : Node) (u : Under) → row.kind ≡ kind_of Leaf → row.cells ≡ 1 → row.under ≡ u → Lays ns ks (ns ++ row ∷ []) ks u Leaf 1
leaf_lays ns ks row u k c w =
    let x = one_more ns row in
    record {
      rows_stay = more_stays ns (row ∷ []);
      lists_stay = λ i x e. e;
      is_under = record { row = row; is_row = get_last ns row; under_is = w };
      laid = record { row = row; is_row = get_last ns row; kind = k; cells = c };
      as_many = omega arith;
      few_parts = omega arith;
      cells_are = refl;
    }

-- rows before the number stay where a row is filled, and so do those behind it
before_stays : (ns ms : List Node) (opened row : Node) → Stays (ns ++ opened ∷ []) ms → Stays ns (set ms (length ns) row)
before_stays ns ms opened row h i x e =
    let w = get_within ns i x e in
    set_other ms (length ns) i row x (λ z. omega arith) (h i x (get_more ns (opened ∷ []) i x e))

behind_stays : (ms : List Node) (n : ℕ) (row : Node) → StaysFrom (suc n) ms (set ms n row)
behind_stays ms n row i x l e = set_other ms n i row x (λ z. omega arith) e

pub array_lays : (ns ms : List Node) (ks js : List ℕ) (opened row : Node) (u : Under) (m : ℕ) (f : Form) (c : ℕ) → Lays (ns ++ opened ∷ []) ks ms js (under (length ns) (step.Elem 0) 0) f c
    → row.kind ≡ kind_of (Row m f) → row.cells ≡ m * c → row.under ≡ u → Lays ns ks (set ms (length ns) row) js u (Row m f) (m * c)
array_lays ns ms ks js opened row u m f c h k r w =
    let x = one_more ns opened in
    let a = h.as_many in
    let b = h.few_parts in
    let l : length ns < length ms = omega arith in
    let z = set_length ms (length ns) row in
    let g : Laid ms js (suc (length ns)) f = subst (λ n. Laid ms js n f) x h.laid in
    let v : IsUnder ms (suc (length ns)) (under (length ns) (step.Elem 0) 0) = subst (λ n. IsUnder ms n (under (length ns) (step.Elem 0) 0)) x h.is_under in
    let s = behind_stays ms (length ns) row in
    record {
      rows_stay = before_stays ns ms opened row h.rows_stay;
      lists_stay = h.lists_stay;
      is_under = record { row = row; is_row = set_same ms (length ns) row l; under_is = w };
      laid = (
        record { row = row; is_row = set_same ms (length ns) row l; kind = k; cells = r ∙ ap (λ n. m * n) h.cells_are },
        under_stays ms (set ms (length ns) row) js js (suc (length ns)) s (λ i x m e. e) (suc (length ns)) (under (length ns) (step.Elem 0) 0) (omega arith) v,
        laid_stays ms (set ms (length ns) row) js js (suc (length ns)) s (λ i x m e. e) (suc (length ns)) f (omega arith) g,
      );
      as_many = omega arith;
      few_parts = omega arith;
      cells_are = ap (λ n. m * n) h.cells_are;
    }

-- entries that list the parts
listed_starts : (fs : Forms) (xs back : List ℕ) (n : ℕ) → Listed (xs ++ (starts fs n ++ back)) (length xs) n fs
listed_starts End xs back n = tt
listed_starts (More f fs) xs back n =
    let l : length (xs ++ n ∷ []) ≡ suc (length xs) = (let w = length-append xs (n ∷ []) in omega arith) in (
      get_first xs (starts fs (n + nodes f) ++ back) n,
      subst (λ k. Listed (xs ++ n ∷ (starts fs (n + nodes f) ++ back)) k (n + nodes f) fs) l
          (subst (λ t. Listed t (length (xs ++ n ∷ [])) (n + nodes f) fs) (append_assoc xs (n ∷ []) (starts fs (n + nodes f) ++ back)) (listed_starts fs (xs ++ n ∷ []) back (n + nodes f))),
    )
  where
    get_first : (xs ys : List ℕ) (y : ℕ) → slice_get (xs ++ y ∷ ys) (length xs) ≡ Some y
    get_first [] ys y = refl
    get_first (x ∷ xs) ys y = get_first xs ys y

append_nil : (xs : List ℕ) → xs ++ [] ≡ xs
append_nil [] = refl
append_nil (x ∷ xs) = ap (λ k. x ∷ k) (append_nil xs)

module _ (c : ClassId) (u : Bool) (bs ms : Forms) (count_bases count_members : ℕ) where
  abbrev pub bases : ℕ → Group
  bases n = record { class = c; node = n; of_bases = true; shared = false; count = count_bases; offset = 1 }

  abbrev pub members : ℕ → ℕ → Group
  members n before = record { class = c; node = n; of_bases = false; shared = u; count = count_members; offset = 1 + before }

  pub class_lays : (ns ns2 ns3 : List Node) (ks ks2 ks3 js2 js3 : List ℕ) (opened row : Node) (w : Under) (c1 c2 : ℕ) → LaysAll (ns ++ opened ∷ []) ks [] ns2 ks2 js2 (bases (length ns)) bs c1 → LaysAll ns2 ks2 js2 ns3 ks3 js3 (members (length ns) c1) ms c2
      → row.kind ≡ kind_of (Class c u bs ms) → row.cells ≡ 1 + c1 + c2 → row.under ≡ w → row.bases_from ≡ length ks3 → row.members_from ≡ length ks3 + count bs
      → Lays ns ks (set ns3 (length ns) row) (ks3 ++ js3) w (Class c u bs ms) (1 + c1 + c2)
  class_lays ns ns2 ns3 ks ks2 ks3 js2 js3 opened row w c1 c2 h g k r z from from2 =
      let n = length ns in
      let x = one_more ns opened in
      let a1 = h.as_many in
      let a2 = g.as_many in
      let f1 = h.few_parts in
      let f2 = g.few_parts in
      let e1 = h.cells_are in
      let e2 = g.cells_are in
      let l : n < length ns3 = omega arith in
      let len = set_length ns3 n row in
      let n2 : length ns2 ≡ n + suc (nodes_in bs) = omega arith in
      let s = behind_stays ns3 n row in
      let k3 : Stays ks3 (ks3 ++ js3) = more_stays ks3 js3 in
      let total : 1 + c1 + c2 ≡ suc (cells_in false bs + cells_in u ms) = omega arith in
      let o : 1 + c1 ≡ suc (cells_in false bs) = omega arith in
      let j2 : js2 ≡ starts bs (suc n) = h.starts_are ∙ ap (starts bs) x in
      let j3 : js3 ≡ starts bs (suc n) ++ starts ms (n + suc (nodes_in bs)) = g.starts_are ∙ ap (λ t. t ++ starts ms (length ns2)) j2 ∙ ap (λ t. starts bs (suc n) ++ starts ms t) n2 in
      let lj = length-append (starts bs (suc n)) (starts ms (n + suc (nodes_in bs))) in
      let lb = starts_length bs (suc n) in
      let lm = starts_length ms (n + suc (nodes_in bs)) in
      let l3 : length js3 ≡ count bs + count ms = ap length j3 ∙ (let v : length (starts bs (suc n) ++ starts ms (n + suc (nodes_in bs))) ≡ count bs + count ms = omega arith in v) in
      let la = length-append ks3 js3 in
      let lb3 = length-append ks3 (starts bs (suc n)) in
      let listed1 : Listed (ks3 ++ js3) (length ks3) (suc n) bs = subst (λ t. Listed (ks3 ++ t) (length ks3) (suc n) bs) (sym j3) (listed_starts bs ks3 (starts ms (n + suc (nodes_in bs))) (suc n)) in
      let back : (ks3 ++ starts bs (suc n)) ++ (starts ms (n + suc (nodes_in bs)) ++ []) ≡ ks3 ++ js3 =
      ap (λ t. (ks3 ++ starts bs (suc n)) ++ t) (append_nil (starts ms (n + suc (nodes_in bs)))) ∙ append_assoc ks3 (starts bs (suc n)) (starts ms (n + suc (nodes_in bs))) ∙ ap (λ t. ks3 ++ t) (sym j3) in
      let at2 : length (ks3 ++ starts bs (suc n)) ≡ length ks3 + count bs = omega arith in
      let listed2 : Listed (ks3 ++ js3) (length ks3 + count bs) (n + suc (nodes_in bs)) ms = subst (λ t. Listed (ks3 ++ js3) t (n + suc (nodes_in bs)) ms) at2 (subst (λ t. Listed t (length (ks3 ++ starts bs (suc n))) (n + suc (nodes_in bs)) ms) back (listed_starts ms (ks3 ++ starts bs (suc n)) [] (n + suc (nodes_in bs)))) in
      let p1 : PartsLaid ns2 ks2 n step.Base false 0 (suc n) 1 bs = subst (λ t. PartsLaid ns2 ks2 n step.Base false 0 t 1 bs) x h.laid in
      let p2 : PartsLaid ns3 ks3 n step.Field u 0 (n + suc (nodes_in bs)) (suc (cells_in false bs)) ms = subst (λ t. PartsLaid ns3 ks3 n step.Field u 0 (n + suc (nodes_in bs)) t ms) o (subst (λ t. PartsLaid ns3 ks3 n step.Field u 0 t (1 + c1) ms) n2 g.laid) in
      let q1 = parts_stay ns2 ns3 ks2 ks3 0 (λ i y m e. g.rows_stay i y e) (λ i y m e. g.lists_stay i y e) n step.Base false 0 (suc n) 1 bs (omega arith) p1 in
      record {
        rows_stay = before_stays ns ns3 opened row (λ i y e. g.rows_stay i y (h.rows_stay i y e));
        lists_stay = λ i y e. k3 i y (g.lists_stay i y (h.lists_stay i y e));
        is_under = record { row = row; is_row = set_same ns3 n row l; under_is = z };
        laid = (
          record { row = row; is_row = set_same ns3 n row l; kind = k; cells = r ∙ total },
          subst (λ t. Listed (ks3 ++ js3) t (suc n) bs) (sym from) listed1,
          subst (λ t. Listed (ks3 ++ js3) t (n + suc (nodes_in bs)) ms) (sym from2) listed2,
          parts_stay ns3 (set ns3 n row) ks3 (ks3 ++ js3) (suc n) s (λ i y m e. k3 i y e) n step.Base false 0 (suc n) 1 bs (omega arith) q1,
          parts_stay ns3 (set ns3 n row) ks3 (ks3 ++ js3) (suc n) s (λ i y m e. k3 i y e) n step.Field u 0 (n + suc (nodes_in bs)) (suc (cells_in false bs)) ms (omega arith) p2,
        );
        as_many = omega arith;
        few_parts = omega arith;
        cells_are = total;
      }

  -- there is room for the bases, and then for the members
  pub bases_room : (ns : List Node) (ks : List ℕ) (opened : Node) (o : ℕ) → Room ns ks o (Class c u bs ms) → count_bases ≡ count bs → GroupRoom (ns ++ opened ∷ []) ks (bases (length ns)) bs
  bases_room ns ks opened o r e =
      let x = one_more ns opened in
      let a = r.few_nodes in
      let b = r.few_parts in
      let d = r.few_cells in
      record { few_nodes = omega arith; few_parts = omega arith; few_cells = omega arith; full = r.full.0; count_is = e }

  pub members_room : (ns ns2 : List Node) (ks ks2 js2 : List ℕ) (opened : Node) (o c1 : ℕ) → Room ns ks o (Class c u bs ms) → count_members ≡ count ms → LaysAll (ns ++ opened ∷ []) ks [] ns2 ks2 js2 (bases (length ns)) bs c1 → GroupRoom ns2 ks2 (members (length ns) c1) ms
  members_room ns ns2 ks ks2 js2 opened o c1 r e h =
      let x = one_more ns opened in
      let a = r.few_nodes in
      let b = r.few_parts in
      let d = r.few_cells in
      let a1 = h.as_many in
      let f1 = h.few_parts in
      let e1 = h.cells_are in
      record { few_nodes = omega arith; few_parts = omega arith; few_cells = omega arith; full = r.full.1; count_is = e }
