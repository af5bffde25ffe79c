-- Types that are the same, const aside: that this is an equivalence, and that they hold the same values.
use Rattle.std.proofs.Common.{◌≡◌, ℕ, zero, suc, ◌<◌, length, Some, inl, inr, refl, sym, ap, subst, ◌∙◌, slice_get, arith}
use Rattle.std.proofs.lemmas.Option.{slice_get_cases}
use Rattle.cx_ints.specs.declared.int.Int.{Int}
use Rattle.cx_type_defs.specs.declared.ids.TypeId.{TypeId}
use Rattle.cx_type_defs.specs.declared.kind.TypeRow.{TypeRow}
use Rattle.cx_type_defs.specs.declared.kind.TypeKind.{TypeKind}
use Rattle.cx_type_defs.specs.declared.kind.TypeKind.TheVariants as kind
use Rattle.cx_type_defs.specs.Tables.{Tables, IsKnown}
use Rattle.cx_type_defs.specs.Levels.{part_of}
use Rattle.cx_type_defs.specs.Sound.{Sound}
use Rattle.cx_type_defs.proofs.Lists.{some_inj}
use Rattle.cx_state.specs.declared.kind.Scalar.{Scalar}
use Rattle.cx_state.specs.declared.kind.Scalar.TheVariants as scalar
use Rattle.cx_state.specs.Objects.{Path, Objects}
use Rattle.cx_state.specs.Alike.{Plain, Itself, PointerTo, ReferenceTo, ArrayOf, IsSimple, IsMadeOf, Is, Alike}
use Rattle.cx_state.specs.Forms.{HoldsValue, IsPointee, Designates, MayHold}

-- a type is written out in one way alone

same-kind : (a b k : TypeKind) → k ≡ a → k ≡ b → a ≡ b
same-kind a b k e f = sym e ∙ f

not-pointer : (l : TypeKind) (to : TypeId) → IsSimple l → l ≡ kind.Pointer to → ⊥
not-pointer l to s e = subst IsSimple e s

not-reference : (l : TypeKind) (to : TypeId) → IsSimple l → l ≡ kind.Reference to → ⊥
not-reference l to s e = subst IsSimple e s

not-array : (l : TypeKind) (of : TypeId) (n : ℕ) → IsSimple l → l ≡ kind.Array of n → ⊥
not-array l of n s e = subst IsSimple e s

module _ (t : Tables) where
  row-of-part : (a b : TypeId) (q r : TypeRow) → a ≡ b → slice_get t.rows a.0 ≡ Some q → slice_get t.rows b.0 ≡ Some r → q ≡ r
  row-of-part a b q r e x y = some_inj q r (sym x ∙ ap (λ (i : TypeId). slice_get t.rows i.0) e ∙ y)

  once : (p q : Plain) (k : TypeKind) → Is t k p → Is t k q → p ≡ q
  once (Itself l) (Itself m) k h g = ap Itself (same-kind l m k h.1 g.1)
  once (Itself l) (PointerTo q) k h g = absurd (not-pointer l g.part h.0 (same-kind l _ k h.1 g.is_made))
  once (Itself l) (ReferenceTo q) k h g = absurd (not-reference l g.part h.0 (same-kind l _ k h.1 g.is_made))
  once (Itself l) (ArrayOf q n) k h g = absurd (not-array l g.part n h.0 (same-kind l _ k h.1 g.is_made))
  once (PointerTo p) (Itself m) k h g = absurd (not-pointer m h.part g.0 (same-kind m _ k g.1 h.is_made))
  once (PointerTo p) (PointerTo q) k h g =
      let e : h.part ≡ g.part = (let w : kind.Pointer h.part ≡ kind.Pointer g.part = same-kind _ _ k h.is_made g.is_made in cc) in
      ap PointerTo (once p q g.row.kind (subst (λ (r : TypeRow). Is t r.kind p) (row-of-part h.part g.part h.row g.row e h.is_row g.is_row) h.part_is) g.part_is)
  once (PointerTo p) (ReferenceTo q) k h g = absurd (let w : kind.Pointer h.part ≡ kind.Reference g.part = same-kind _ _ k h.is_made g.is_made in cc)
  once (PointerTo p) (ArrayOf q n) k h g = absurd (let w : kind.Pointer h.part ≡ kind.Array g.part n = same-kind _ _ k h.is_made g.is_made in cc)
  once (ReferenceTo p) (Itself m) k h g = absurd (not-reference m h.part g.0 (same-kind m _ k g.1 h.is_made))
  once (ReferenceTo p) (PointerTo q) k h g = absurd (let w : kind.Reference h.part ≡ kind.Pointer g.part = same-kind _ _ k h.is_made g.is_made in cc)
  once (ReferenceTo p) (ReferenceTo q) k h g =
      let e : h.part ≡ g.part = (let w : kind.Reference h.part ≡ kind.Reference g.part = same-kind _ _ k h.is_made g.is_made in cc) in
      ap ReferenceTo (once p q g.row.kind (subst (λ (r : TypeRow). Is t r.kind p) (row-of-part h.part g.part h.row g.row e h.is_row g.is_row) h.part_is) g.part_is)
  once (ReferenceTo p) (ArrayOf q n) k h g = absurd (let w : kind.Reference h.part ≡ kind.Array g.part n = same-kind _ _ k h.is_made g.is_made in cc)
  once (ArrayOf p n) (Itself m) k h g = absurd (not-array m h.part n g.0 (same-kind m _ k g.1 h.is_made))
  once (ArrayOf p n) (PointerTo q) k h g = absurd (let w : kind.Array h.part n ≡ kind.Pointer g.part = same-kind _ _ k h.is_made g.is_made in cc)
  once (ArrayOf p n) (ReferenceTo q) k h g = absurd (let w : kind.Array h.part n ≡ kind.Reference g.part = same-kind _ _ k h.is_made g.is_made in cc)
  once (ArrayOf p n) (ArrayOf q m) k h g =
      let w : kind.Array h.part n ≡ kind.Array g.part m = same-kind _ _ k h.is_made g.is_made in
      let e : h.part ≡ g.part = cc in
      let f : n ≡ m = cc in
      ap (λ x. ArrayOf x n) (once p q g.row.kind (subst (λ (r : TypeRow). Is t r.kind p) (row-of-part h.part g.part h.row g.row e h.is_row g.is_row) h.part_is) g.part_is) ∙ ap (ArrayOf q) f

  pub alike-symmetric : (a b : TypeKind) → Alike t a b → Alike t b a
  alike-symmetric a b h = record { plain = h.plain; left = h.right; right = h.left }

  pub alike-transitive : (a b c : TypeKind) → Alike t a b → Alike t b c → Alike t a c
  alike-transitive a b c h g = record { plain = h.plain; left = h.left; right = subst (Is t c) (once g.plain h.plain b g.left h.right) g.right }

  pub alike-simple : (a b : TypeKind) → IsSimple a → Alike t a b → b ≡ a
  alike-simple a b s h = by h.plain h.left h.right
    where
      by : (p : Plain) → Is t a p → Is t b p → b ≡ a
      by (Itself l) x y = y.1 ∙ sym x.1
      by (PointerTo p) x y = absurd (not-pointer a x.part s x.is_made)
      by (ReferenceTo p) x y = absurd (not-reference a x.part s x.is_made)
      by (ArrayOf p n) x y = absurd (not-array a x.part n s x.is_made)

  pub alike-length : (a b : TypeId) (n m : ℕ) → Alike t (kind.Array a n) (kind.Array b m) → n ≡ m
  alike-length a b n m h = by h.plain h.left h.right
    where
      by : (p : Plain) → Is t (kind.Array a n) p → Is t (kind.Array b m) p → n ≡ m
      by (Itself l) x y = absurd (not-array l a n x.0 (sym x.1))
      by (PointerTo p) x y = let e = x.is_made in absurd (cc)
      by (ReferenceTo p) x y = let e = x.is_made in absurd (cc)
      by (ArrayOf p k) x y = let e = x.is_made in let f = y.is_made in cc

  pub simple-alike : (a : TypeKind) → IsSimple a → Alike t a a
  simple-alike a s = record { plain = Itself a; left = (s, refl); right = (s, refl) }

  -- they hold the same values

  pub alike-pointee : (a b k : TypeKind) → Alike t a b → IsPointee t a k → IsPointee t b k
  alike-pointee a b k h (inl e) = inl (alike-simple kind.Void b tt (subst (λ z. Alike t z b) e h))
  alike-pointee a b k h (inr g) = inr (alike-transitive b a k (alike-symmetric a b h) g)

  alike-designates : (os : Objects) (a b : TypeId) (q r : TypeRow) → slice_get t.rows a.0 ≡ Some q → slice_get t.rows b.0 ≡ Some r → Alike t q.kind r.kind → (p : Path) → Designates t os a p → Designates t os b p
  alike-designates os a b q r ea eb h p d = record {
    asked = r;
    is_asked = eb;
    found = d.found;
    is_found = d.is_found;
    alike = alike-pointee q.kind r.kind d.found.kind h (subst (λ (w : TypeRow). IsPointee t w.kind d.found.kind) (some_inj d.asked q (sym d.is_asked ∙ ea)) d.alike);
  }

  pointer-holds : (os : Objects) (a b : TypeId) (q r : TypeRow) → slice_get t.rows a.0 ≡ Some q → slice_get t.rows b.0 ≡ Some r → Alike t q.kind r.kind → (v : Scalar Path) → MayHold t os (kind.Pointer a) v → MayHold t os (kind.Pointer b) v
  pointer-holds os a b q r ea eb h scalar.Indeterminate m = tt
  pointer-holds os a b q r ea eb h scalar.Null m = tt
  pointer-holds os a b q r ea eb h (scalar.Place p) m = alike-designates os a b q r ea eb h p m
  pointer-holds os a b q r ea eb h (scalar.Int i) m = absurd m

  reference-holds : (os : Objects) (a b : TypeId) (q r : TypeRow) → slice_get t.rows a.0 ≡ Some q → slice_get t.rows b.0 ≡ Some r → Alike t q.kind r.kind → (v : Scalar Path) → MayHold t os (kind.Reference a) v → MayHold t os (kind.Reference b) v
  reference-holds os a b q r ea eb h scalar.Indeterminate m = tt
  reference-holds os a b q r ea eb h scalar.Null m = absurd m
  reference-holds os a b q r ea eb h (scalar.Place p) m = alike-designates os a b q r ea eb h p m
  reference-holds os a b q r ea eb h (scalar.Int i) m = absurd m

  array-holds : (os : Objects) (a b : TypeId) (n m : ℕ) (v : Scalar Path) → MayHold t os (kind.Array a n) v → MayHold t os (kind.Array b m) v
  array-holds os a b n m scalar.Indeterminate h = tt
  array-holds os a b n m scalar.Null h = absurd h
  array-holds os a b n m (scalar.Place p) h = absurd h
  array-holds os a b n m (scalar.Int i) h = absurd h

  pub alike-holds : (os : Objects) (a b : TypeKind) (v : Scalar Path) → Alike t a b → MayHold t os a v → MayHold t os b v
  alike-holds os a b v h = by h.plain h.left h.right
    where
      by : (p : Plain) → Is t a p → Is t b p → MayHold t os a v → MayHold t os b v
      by (Itself l) x y m = subst (λ k. MayHold t os k v) (x.1 ∙ sym y.1) m
      by (PointerTo p) x y m = subst (λ k. MayHold t os k v) (sym y.is_made) (pointer-holds os x.part y.part x.row y.row x.is_row y.is_row (record { plain = p; left = x.part_is; right = y.part_is }) v (subst (λ k. MayHold t os k v) x.is_made m))
      by (ReferenceTo p) x y m = subst (λ k. MayHold t os k v) (sym y.is_made) (reference-holds os x.part y.part x.row y.row x.is_row y.is_row (record { plain = p; left = x.part_is; right = y.part_is }) v (subst (λ k. MayHold t os k v) x.is_made m))
      by (ArrayOf p n) x y m = subst (λ k. MayHold t os k v) (sym y.is_made) (array-holds os x.part y.part n n v (subst (λ k. MayHold t os k v) x.is_made m))

  pub alike-scalar : (a b : TypeKind) → Alike t a b → HoldsValue a → HoldsValue b
  alike-scalar a b h = by h.plain h.left h.right
    where
      by : (p : Plain) → Is t a p → Is t b p → HoldsValue a → HoldsValue b
      by (Itself l) x y m = subst HoldsValue (x.1 ∙ sym y.1) m
      by (PointerTo p) x y m = subst HoldsValue (sym y.is_made) tt
      by (ReferenceTo p) x y m = subst HoldsValue (sym y.is_made) tt
      by (ArrayOf p n) x y m = absurd (subst HoldsValue x.is_made m)

-- every type of the tables is written out, by what was there before it

row-at : (t : Tables) (i : ℕ) → i < length t.rows → (r : TypeRow) × (slice_get t.rows i ≡ Some r)
row-at t i l = elim (slice_get_cases t.rows i).1 as (λ _. (r : TypeRow) × (slice_get t.rows i ≡ Some r)) [ inl h ↦ (h.0, h.2) | inr h ↦ (let n = h.0 in absurd (omega arith)) ]

module _ (t : Tables) (sound : Sound t) where
  -- all types with numbers below n are
  abbrev Below : ℕ → Type 0
  Below n = (i : ℕ) (r : TypeRow) → i < n → slice_get t.rows i ≡ Some r → (p : Plain) × Is t r.kind p

  made_of : (n : ℕ) → Below n → (make : TypeId → TypeKind) (part : TypeId) → part.0 < n → part.0 < length t.rows → (p : Plain) × IsMadeOf t make (λ q. Is t q p) (make part)
  made_of n below make part l k =
      let r = row-at t part.0 k in
      let p = below part.0 r.0 l r.1 in
      (p.0, record { part = part; is_made = refl; row = r.0; is_row = r.1; part_is = p.1 })

  kind-written : (n : ℕ) → Below n → (k : TypeKind) → IsKnown t k → ((part : TypeId) → part_of k ≡ Some part → part.0 < n) → (p : Plain) × Is t k p
  kind-written n below (kind.Pointer to) known older = let p = made_of n below kind.Pointer to (older to refl) known in (PointerTo p.0, p.1)
  kind-written n below (kind.Reference to) known older = let p = made_of n below kind.Reference to (older to refl) known in (ReferenceTo p.0, p.1)
  kind-written n below (kind.Array of m) known older = let p = made_of n below (λ to. kind.Array to m) of (older of refl) known.0 in (ArrayOf p.0 m, p.1)
  kind-written n below kind.Void known older = (Itself kind.Void, (tt, refl))
  kind-written n below kind.Nullptr known older = (Itself kind.Nullptr, (tt, refl))
  kind-written n below (kind.Int i) known older = (Itself (kind.Int i), (tt, refl))
  kind-written n below (kind.Enum e) known older = (Itself (kind.Enum e), (tt, refl))
  kind-written n below (kind.Class c) known older = (Itself (kind.Class c), (tt, refl))

  all-written : (n : ℕ) → Below n
  all-written zero i r l e = absurd (omega arith)
  all-written (suc n) i r l e = kind-written n (all-written n) r.kind (sound.rows_known i r e) (λ part h. let o = sound.parts_older i r part e h in omega arith)

  pub alike-itself : (id : TypeId) (r : TypeRow) → slice_get t.rows id.0 ≡ Some r → Alike t r.kind r.kind
  alike-itself id r e = let p = all-written (suc id.0) id.0 r (omega arith) e in record { plain = p.0; left = p.1; right = p.1 }
