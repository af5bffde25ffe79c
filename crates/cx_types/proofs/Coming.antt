-- A row that comes in is kept as it was found.
use Rattle.std.proofs.Common.{◌≡◌, ℕ, ◌+◌, ◌*◌, ◌<◌, ◌≤◌, Bool, true, false, List, [], ◌∷◌, ◌++◌, length, Option, None, Some, ◌⊎◌, inl, inr, refl, sym, ap, subst, ◌∙◌, slice_get, arith, length-append}
use Rattle.std.specs.Prelude.{option_map, option_and_then, not, ◌&&◌}
use Rattle.std.proofs.lemmas.Option.{slice_get_within}
use Rattle.std.proofs.Math.Nat.{mul-le-mul_left}
use Rattle.cx_base.specs.declared.int_type.IntType.{IntType}
use Rattle.cx_base.specs.declared.int_type.IntType.TheVariants as int
use Rattle.cx_type_defs.specs.declared.ids.TypeId.{TypeId}
use Rattle.cx_type_defs.specs.declared.kind.TypeRow.{TypeRow}
use Rattle.cx_type_defs.specs.declared.kind.TypeKind.{TypeKind}
use Rattle.cx_type_defs.specs.declared.kind.TypeKind.TheVariants as kind
use Rattle.cx_type_defs.specs.declared.decl.Extent.{Extent}
use Rattle.cx_types.specs.declared.facts.RowFacts.{RowFacts}
use Rattle.cx_types.specs.declared.facts.Measure.{Measure}
use Rattle.cx_type_defs.specs.Tables.{Tables, Grows, IsKnown, with_row, int_size, under_at}
use Rattle.cx_type_defs.specs.Questions.{Part, OfType, address_answer, kind_answer, asked, depth_of, cells_of, nodes_of, literal_of, extent_of, bytes}
use Rattle.cx_type_defs.specs.Levels.{part_of}
use Rattle.cx_type_defs.specs.Same.{may_be_pointed_to, may_be_referred_to, row_passes, is_normal_kind, is_normal}
use Rattle.cx_types.specs.Kept.{Fitting, RowTold, KeptRow, Kept, IsLeaf, IsNoClass, FoundLeaf, FoundRow, MayCome}
use Rattle.cx_type_defs.proofs.Lists.{some_inj, option_map-some, option_and_then-some, slice_get-last, slice_get-more, slice_get-push}
use Rattle.cx_type_defs.proofs.Looking.{row-grows, Grows-same, Grows-then}
use Rattle.cx_type_defs.proofs.Growing.{Grows-row}
use Rattle.cx_type_defs.proofs.Chains.{known-part}
use Rattle.cx_type_defs.proofs.Asked.{asked-opens, asked-row}
use Rattle.cx_types.proofs.Keeping.{IsKnown-grows, KeptRow-grows, KeptClass-grows}
use Rattle.cx_types.proofs.Rows.{spread-one, pointer-always}

spread-spread : (n m : ℕ) (o : Option (Option Extent)) → option_map (extent_of.of_array n) (option_map (extent_of.of_array m) o) ≡ option_map (extent_of.of_array (n * m)) o
spread-spread n m None = refl
spread-spread n m (Some None) = refl
spread-spread n m (Some (Some e)) = ap (λ s. Some (Some (record { size = s; align = e.align }))) (let z : n * (m * e.size) ≡ n * m * e.size = omega arith in z)

int_size-fits : (ty : IntType) → (1 ≤ int_size ty) × (int_size ty ≤ 8)
int_size-fits int.Bool = (omega arith, omega arith)
int_size-fits int.Char = (omega arith, omega arith)
int_size-fits int.SChar = (omega arith, omega arith)
int_size-fits int.UChar = (omega arith, omega arith)
int_size-fits int.Short = (omega arith, omega arith)
int_size-fits int.UShort = (omega arith, omega arith)
int_size-fits int.Int = (omega arith, omega arith)
int_size-fits int.UInt = (omega arith, omega arith)
int_size-fits int.Long = (omega arith, omega arith)
int_size-fits int.ULong = (omega arith, omega arith)
int_size-fits int.LongLong = (omega arith, omega arith)
int_size-fits int.ULongLong = (omega arith, omega arith)

bytes-fit : (n : ℕ) → (1 ≤ n) × (n ≤ 8) → (e : Extent) → bytes n ≡ Some e → (c : ℕ) → 1 ≤ c → Fitting c e
bytes-fit n h e x c some =
    let x' = some_inj (record { size = n; align = n }) e x in
    let lo = h.0 in let hi = h.1 in
    subst (Fitting c) x' (record { size_fits = omega arith; least_align = lo; most_align = hi })

-- a scalar's or reference's extent

scalar-fits : (t : Tables) (k : TypeKind) → IsLeaf k → IsNoClass k → (below : Part → Option (Option Extent)) (e : Extent) → kind_answer extent_of t below k ≡ Some (Some e) → (c : ℕ) → 1 ≤ c → Fitting c e
scalar-fits t kind.Void l n below e x c some = absurd (cc)
scalar-fits t kind.Nullptr l n below e x c some = bytes-fit 8 (omega arith, omega arith) e (some_inj (bytes 8) (Some e) x) c some
scalar-fits t (kind.Int ty) l n below e x c some = bytes-fit (int_size ty) (int_size-fits ty) e (some_inj (bytes (int_size ty)) (Some e) x) c some
scalar-fits t (kind.Enum id) l n below e x c some =
    let i = option_map-some bytes (option_map int_size (under_at t id)) (Some e) x in
    let j = option_map-some int_size (under_at t id) i.0 i.1 in
    bytes-fit i.0 (subst (λ z. (1 ≤ z) × (z ≤ 8)) j.2 (int_size-fits j.0)) e i.2 c some
scalar-fits t (kind.Pointer to) l n below e x c some =
    let i = option_and_then-some (λ (r : TypeRow). address_answer extent_of (below (OfType to)) r.kind) (slice_get t.rows to.0) (Some e) x in
    bytes-fit 8 (omega arith, omega arith) e (some_inj (bytes 8) (Some e) (sym (pointer-always extent_of refl t below to i.0 i.1) ∙ x)) c some
scalar-fits t (kind.Reference to) l n below e x c some =
    let i = option_and_then-some (λ (r : TypeRow). address_answer extent_of (below (OfType to)) r.kind) (slice_get t.rows to.0) (Some e) x in
    bytes-fit 8 (omega arith, omega arith) e (some_inj (bytes 8) (Some e) (sym (pointer-always extent_of refl t below to i.0 i.1) ∙ x)) c some
scalar-fits t (kind.Array of k) l n below e x c some = absurd l
scalar-fits t (kind.Class id) l n below e x c some = absurd n

array-fits : (n : ℕ) (o : Option Extent) (cells : ℕ) → 1 ≤ n → ((m : Extent) → o ≡ Some m → Fitting cells m) → (e : Extent) → extent_of.of_array n o ≡ Some e → Fitting (n * cells) e
array-fits n None cells some h e x = absurd (cc)
array-fits n (Some m) cells some h e x =
    let f = h m refl in
    let p = mul-le-mul_left n f.size_fits in
    let q : n * m.size + 8 ≤ 16 * (n * cells) = omega arith in
    let x' = some_inj (record { size = n * m.size; align = m.align }) e x in
    subst (Fitting (n * cells)) x' (record { size_fits = q; least_align = f.least_align; most_align = f.most_align })

-- the parts of what is told of the new row

module _ (t v : Tables) (grows : Grows t v) (id : TypeId) (row : TypeRow) (at : slice_get v.rows id.0 ≡ Some row) (f : RowFacts) where
  -- the equation of its extent
  opened : asked depth_of v (OfType id) ≡ Some f.facts.depth → (k : TypeKind) → row.kind ≡ k → asked extent_of v (OfType id) ≡ kind_answer extent_of v (asked extent_of v) k
  opened told k is =
      asked-opens extent_of v (OfType id) f.facts.depth told ∙ ap (option_and_then (λ (w : TypeRow). kind_answer extent_of v (asked extent_of v) w.kind)) at ∙ ap (kind_answer extent_of v (asked extent_of v)) is

  abbrev Spread : Type 0
  Spread = (asked extent_of v (OfType id) ≡ option_map (extent_of.of_array f.count) (asked extent_of v (OfType f.leaf)))
      × ((e : Extent) → asked extent_of v (OfType id) ≡ Some (Some e) → Fitting f.facts.cells e)
      × ((r : TypeRow) × (slice_get v.rows f.leaf.0 ≡ Some r) × IsLeaf r.kind)

  scalar-spread : asked depth_of v (OfType id) ≡ Some f.facts.depth → (k : TypeKind) → row.kind ≡ k → IsLeaf k → IsNoClass k → 1 ≤ f.facts.cells → f.count ≡ 1 → f.leaf ≡ id → Spread
  scalar-spread told k is l n some ec el = (
    spread-one (asked extent_of v (OfType id)) ∙ ap (λ c. option_map (extent_of.of_array c) (asked extent_of v (OfType id))) (sym ec) ∙ ap (λ i. option_map (extent_of.of_array f.count) (asked extent_of v (OfType i))) (sym el),
    (λ e x. scalar-fits v k l n (asked extent_of v) e (sym (opened told k is) ∙ x) f.facts.cells some),
    (row, ap (λ (i : TypeId). slice_get v.rows i.0) el ∙ at, subst IsLeaf (sym is) l),
  )

  spread-of : asked depth_of v (OfType id) ≡ Some f.facts.depth → (k : TypeKind) → row.kind ≡ k → IsNoClass k → kind_answer cells_of t (asked cells_of t) k ≡ Some f.facts.cells → FoundLeaf t id k f → Spread
  spread-of told kind.Void is n cells leaf =
      let none = opened told kind.Void is in (
        none ∙ ap (option_map (extent_of.of_array f.count)) (sym (ap (λ i. asked extent_of v (OfType i)) leaf.1 ∙ none)),
        (λ e x. let z : None ≡ Some (Some e) = sym none ∙ x in absurd (cc)),
        (row, ap (λ (i : TypeId). slice_get v.rows i.0) leaf.1 ∙ at, subst IsLeaf (sym is) tt),
      )
  spread-of told kind.Nullptr is n cells leaf = scalar-spread told kind.Nullptr is tt tt (let z = some_inj 1 f.facts.cells cells in omega arith) leaf.0 leaf.1
  spread-of told (kind.Int ty) is n cells leaf = scalar-spread told (kind.Int ty) is tt tt (let z = some_inj 1 f.facts.cells cells in omega arith) leaf.0 leaf.1
  spread-of told (kind.Enum e) is n cells leaf = scalar-spread told (kind.Enum e) is tt tt (let z = some_inj 1 f.facts.cells cells in omega arith) leaf.0 leaf.1
  spread-of told (kind.Pointer to) is n cells leaf =
      let i = option_and_then-some (λ (r : TypeRow). address_answer cells_of (asked cells_of t (OfType to)) r.kind) (slice_get t.rows to.0) f.facts.cells cells in
      scalar-spread told (kind.Pointer to) is tt tt (let z = some_inj 1 f.facts.cells (sym (pointer-always cells_of refl t (asked cells_of t) to i.0 i.1) ∙ cells) in omega arith) leaf.0 leaf.1
  spread-of told (kind.Reference to) is n cells leaf =
      let i = option_and_then-some (λ (r : TypeRow). address_answer cells_of (asked cells_of t (OfType to)) r.kind) (slice_get t.rows to.0) f.facts.cells cells in
      scalar-spread told (kind.Reference to) is tt tt (let z = some_inj 1 f.facts.cells (sym (pointer-always cells_of refl t (asked cells_of t) to i.0 i.1) ∙ cells) in omega arith) leaf.0 leaf.1
  spread-of told (kind.Array of k) is n cells leaf =
      let g = leaf.0 in
      let kept = leaf.1.later v grows in
      let open_ = opened told (kind.Array of k) is in
      let ec : k * g.facts.cells ≡ f.facts.cells = some_inj (k * g.facts.cells) f.facts.cells (sym (ap (option_map (λ c. k * c)) (leaf.1.later t (Grows-same t)).told.cells_told) ∙ cells) in (
        open_ ∙ ap (option_map (extent_of.of_array k)) kept.spread ∙ spread-spread k g.count (asked extent_of v (OfType g.leaf))
            ∙ ap (λ c. option_map (extent_of.of_array c) (asked extent_of v (OfType g.leaf))) (sym leaf.2) ∙ ap (λ i. option_map (extent_of.of_array f.count) (asked extent_of v (OfType i))) (sym leaf.3),
        (λ e x. let i = option_map-some (extent_of.of_array k) (asked extent_of v (OfType of)) (Some e) (sym open_ ∙ x) in
            subst (λ c. Fitting c e) ec (array-fits k i.0 g.facts.cells leaf.4 (λ m y. kept.fits m (i.1 ∙ ap Some y)) e i.2)),
        (kept.leaf_stands.0, ap (λ (i : TypeId). slice_get v.rows i.0) leaf.3 ∙ kept.leaf_stands.1, kept.leaf_stands.2),
      )
  spread-of told (kind.Class c) is n cells leaf = absurd n

  told-of : FoundRow t id row.kind f → IsNoClass row.kind → RowTold v id f
  told-of h n =
      let d = asked-row depth_of t v grows id row at f.facts.depth h.found.depth_found h.small.few_levels f.facts.depth h.found.depth_found in
      let s = spread-of d row.kind refl n h.found.cells_found h.leaf in
      record {
        told = record {
          depth_told = d;
          cells_told = asked-row cells_of t v grows id row at f.facts.depth h.found.depth_found h.small.few_levels f.facts.cells h.found.cells_found;
          nodes_told = asked-row nodes_of t v grows id row at f.facts.depth h.found.depth_found h.small.few_levels f.facts.nodes h.found.nodes_found;
          literal_told = asked-row literal_of t v grows id row at f.facts.depth h.found.depth_found h.small.few_levels f.facts.literal h.found.literal_found;
        };
        spread = s.0;
        fits = s.1;
        leaf_stands = s.2;
      }

found-row : (t : Tables) (id : TypeId) (k : TypeKind) (f : RowFacts) → IsNoClass k → MayCome t id k f → FoundRow t id k f
found-row t id (kind.Class c) f n h = absurd n
found-row t id kind.Void f n h = h
found-row t id kind.Nullptr f n h = h
found-row t id (kind.Int _) f n h = h
found-row t id (kind.Enum _) f n h = h
found-row t id (kind.Pointer _) f n h = h
found-row t id (kind.Reference _) f n h = h
found-row t id (kind.Array _ _) f n h = h

-- a type stays written in the one way where types are added

passes-more : (test : TypeKind → Bool) (xs ys : List TypeRow) (i : ℕ) → row_passes test (slice_get xs i) ≡ true → row_passes test (slice_get (xs ++ ys) i) ≡ true
passes-more test xs ys i e = of (slice_get xs i) refl e
  where
    of : (o : Option TypeRow) → slice_get xs i ≡ o → row_passes test o ≡ true → row_passes test (slice_get (xs ++ ys) i) ≡ true
    of None at p = absurd (cc)
    of (Some r) at p = ap (row_passes test) (slice_get-more xs ys i r at) ∙ p

and-split : (a b : Bool) → (a && b) ≡ true → (a ≡ true) × (b ≡ true)
and-split true b h = (refl, h)
and-split false b h = absurd (cc)

normal-more : (xs ys : List TypeRow) (konst : Bool) (k : TypeKind) → is_normal_kind xs konst k ≡ true → is_normal_kind (xs ++ ys) konst k ≡ true
normal-more xs ys konst (kind.Pointer to) h = passes-more may_be_pointed_to xs ys to.0 h
normal-more xs ys konst (kind.Reference to) h =
    let both = and-split (not konst) (row_passes may_be_referred_to (slice_get xs to.0)) h in
    ap (λ a. a && row_passes may_be_referred_to (slice_get (xs ++ ys) to.0)) both.0 ∙ passes-more may_be_referred_to xs ys to.0 both.1
normal-more xs ys konst (kind.Array _ _) h = h
normal-more xs ys konst kind.Void h = refl
normal-more xs ys konst kind.Nullptr h = refl
normal-more xs ys konst (kind.Int _) h = refl
normal-more xs ys konst (kind.Enum _) h = refl
normal-more xs ys konst (kind.Class _) h = refl

-- a row that came in and stands in the list at one place alone wasn't there before
pub absent-before : (xs new : List TypeRow) (row : TypeRow) (k : ℕ) → new ≡ xs ++ row ∷ [] → ((j : ℕ) → slice_get new j ≡ Some row → j ≡ k) → (i : ℕ) → slice_get xs i ≡ Some row → ⊥
absent-before xs new row k is only i e =
    let last = only (length xs) (ap (λ (l : List TypeRow). slice_get l (length xs)) is ∙ slice_get-last xs row) in
    let first = only i (ap (λ (l : List TypeRow). slice_get l i) is ∙ slice_get-more xs (row ∷ []) i row e) in
    let less = slice_get_within xs i row e in
    omega arith

pub Kept-row : (t : Tables) (row : TypeRow) (f : RowFacts) (rf : List RowFacts) (ms : List (Option Measure)) → IsKnown t row.kind → is_normal t row ≡ true → ((i : ℕ) → slice_get t.rows i ≡ Some row → ⊥) → MayCome t (record { 0 = length t.rows }) row.kind f → Kept t rf ms → Kept (with_row t row) (rf ++ f ∷ []) ms
Kept-row t row f rf ms known normal absent may h = record {
  each_row = (let z = h.each_row in omega (arith, length-append rf (f ∷ []), length-append t.rows (row ∷ [])));
  each_class = h.each_class;
  known = λ i r e. known-of i r (slice_get-push t.rows row i r e);
  older = λ i r part e x. older-of i r part (slice_get-push t.rows row i r e) x;
  normal = λ i r e. normal-of i r (slice_get-push t.rows row i r e);
  once = λ i j r e x. once-of i j r (slice_get-push t.rows row i r e) (slice_get-push t.rows row j r x);
  rows_kept = λ id r g e x n. kept-of id r g n (slice_get-push t.rows row id.0 r e) (slice_get-push rf f id.0 g x);
  classes_kept = λ c d m e x. KeptClass-grows t u grows c d.body m (h.classes_kept c d m e x);
}
  where
    u : Tables
    u = with_row t row

    grows : Grows t u
    grows = Grows-row t row

    longer : (k : TypeKind) → IsKnown t k → IsKnown u k
    longer k w = IsKnown-grows t u (omega (arith, length-append t.rows (row ∷ []))) (omega arith) (omega arith) k w

    known-of : (i : ℕ) (r : TypeRow) → (slice_get t.rows i ≡ Some r) ⊎ ((i ≡ length t.rows) × (r ≡ row)) → IsKnown u r.kind
    known-of i r (inl e) = longer r.kind (h.known i r e)
    known-of i r (inr e) = subst (λ (w : TypeRow). IsKnown u w.kind) (sym e.1) (longer row.kind known)

    older-of : (i : ℕ) (r : TypeRow) (part : TypeId) → (slice_get t.rows i ≡ Some r) ⊎ ((i ≡ length t.rows) × (r ≡ row)) → part_of r.kind ≡ Some part → part.0 < i
    older-of i r part (inl e) x = h.older i r part e x
    older-of i r part (inr e) x =
        let l = known-part t row.kind part known (ap (λ (w : TypeRow). part_of w.kind) (sym e.1) ∙ x) in
        let at = e.0 in
        omega arith

    normal-of : (i : ℕ) (r : TypeRow) → (slice_get t.rows i ≡ Some r) ⊎ ((i ≡ length t.rows) × (r ≡ row)) → is_normal u r ≡ true
    normal-of i r (inl e) = normal-more t.rows (row ∷ []) r.konst r.kind (h.normal i r e)
    normal-of i r (inr e) = subst (λ (w : TypeRow). is_normal u w ≡ true) (sym e.1) (normal-more t.rows (row ∷ []) row.konst row.kind normal)

    once-of : (i j : ℕ) (r : TypeRow) → (slice_get t.rows i ≡ Some r) ⊎ ((i ≡ length t.rows) × (r ≡ row)) → (slice_get t.rows j ≡ Some r) ⊎ ((j ≡ length t.rows) × (r ≡ row)) → i ≡ j
    once-of i j r (inl e) (inl x) = h.once i j r e x
    once-of i j r (inl e) (inr x) = absurd (absent i (e ∙ ap Some x.1))
    once-of i j r (inr e) (inl x) = absurd (absent j (x ∙ ap Some e.1))
    once-of i j r (inr e) (inr x) = e.0 ∙ sym x.0

    kept-new : IsNoClass row.kind → KeptRow u (record { 0 = length t.rows }) f
    kept-new n =
        let w = found-row t (record { 0 = length t.rows }) row.kind f n may in
        record { small = w.small; few_leaves = w.few_leaves; later = λ v g. told-of t v (Grows-then t u v grows g) (record { 0 = length t.rows }) row (row-grows u v g (length t.rows) row (slice_get-last t.rows row)) f w n }

    kept-of : (id : TypeId) (r : TypeRow) (g : RowFacts) → IsNoClass r.kind → (slice_get t.rows id.0 ≡ Some r) ⊎ ((id.0 ≡ length t.rows) × (r ≡ row)) → (slice_get rf id.0 ≡ Some g) ⊎ ((id.0 ≡ length rf) × (g ≡ f)) → KeptRow u id g
    kept-of id r g n (inl a) (inl b) = KeptRow-grows t u grows id g (h.rows_kept id r g a b n)
    kept-of id r g n (inl a) (inr b) = let l = slice_get_within t.rows id.0 r a in let z = b.0 in let y = h.each_row in absurd (omega arith)
    kept-of id r g n (inr a) (inl b) = let l = slice_get_within rf id.0 g b in let z = a.0 in let y = h.each_row in absurd (omega arith)
    kept-of id r g n (inr a) (inr b) =
        subst (λ (i : ℕ). KeptRow u (record { 0 = i }) g) (sym a.0) (subst (KeptRow u (record { 0 = length t.rows })) (sym b.1) (kept-new (subst (λ (w : TypeRow). IsNoClass w.kind) a.1 n)))
