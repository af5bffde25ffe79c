-- The form of a type by those of its parts, however many levels one looks deep.
use Rattle.std.proofs.Common.{◌≡◌, ℕ, zero, suc, ◌+◌, ◌<◌, Bool, true, false, ◌&&◌, List, Some, ◌↔◌, refl, sym, ap, ◌∙◌, length, slice_get, arith, if◌then◌else◌}
use Rattle.cx_type_defs.specs.declared.ids.TypeId.{TypeId}
use Rattle.cx_type_defs.specs.declared.kind.TypeRow.{TypeRow}
use Rattle.cx_type_defs.specs.declared.kind.TypeKind.{TypeKind}
use Rattle.cx_type_defs.specs.declared.kind.TypeKind.TheVariants as kind
use Rattle.cx_type_defs.specs.Tables.{Tables, Grows, IsKnown}
use Rattle.cx_type_defs.specs.Levels.{part_of}
use Rattle.cx_type_defs.specs.Sound.{Sound}
use Rattle.cx_type_defs.specs.Same.{Form, Void, Nullptr, Int, Enum, Pointer, Reference, Array, Class, Const, made_const, kind_form, row_form, form_within, form_of, SameType, SameAside, is_normal_kind}
use Rattle.cx_type_defs.proofs.Lists.{slice_get-within, within-slice_get}
use Rattle.cx_type_defs.proofs.Looking.{row-grows}
use Rattle.cx_type_defs.proofs.Chains.{known-part}

-- a form depends on those of the parts alone
kind-alike : (f g : TypeId → Form) (k : TypeKind) → ((p : TypeId) → part_of k ≡ Some p → f p ≡ g p) → kind_form f k ≡ kind_form g k
kind-alike f g kind.Void h = refl
kind-alike f g kind.Nullptr h = refl
kind-alike f g (kind.Int _) h = refl
kind-alike f g (kind.Enum _) h = refl
kind-alike f g (kind.Pointer to) h = ap Pointer (h to refl)
kind-alike f g (kind.Reference to) h = ap Reference (h to refl)
kind-alike f g (kind.Array el n) h = ap (λ x. Array x n) (h el refl)
kind-alike f g (kind.Class _) h = refl

row-alike : (c : Bool) (f g : TypeId → Form) (r : TypeRow) → ((p : TypeId) → part_of r.kind ≡ Some p → f p ≡ g p) → row_form c f (Some r) ≡ row_form c g (Some r)
row-alike c f g r h = ap (λ x. if c && r.konst then made_const x else x) (kind-alike f g r.kind h)

module _ (c : Bool) (t : Tables) (s : Sound t) where
  -- from a type's number on it is no matter how many levels one looks deep
  within-stable : (n m : ℕ) (id : TypeId) (r : TypeRow) → slice_get t.rows id.0 ≡ Some r → id.0 < n → id.0 < m → form_within c t n id ≡ form_within c t m id
  unfolding form_within
  within-stable zero m id r at ln lm = absurd (omega arith)
  within-stable (suc n) zero id r at ln lm = absurd (omega arith)
  within-stable (suc n) (suc m) id r at ln lm =
      ap (row_form c (form_within c t n)) at
      ∙ row-alike c (form_within c t n) (form_within c t m) r (λ p is. below p is (λ w here x y. within-stable n m p w here x y))
      ∙ ap (row_form c (form_within c t m)) (sym at)
    where
      below : (p : TypeId) → part_of r.kind ≡ Some p → ((w : TypeRow) → slice_get t.rows p.0 ≡ Some w → p.0 < n → p.0 < m → form_within c t n p ≡ form_within c t m p) → form_within c t n p ≡ form_within c t m p
      below p is go =
          let older = s.parts_older id.0 r p at is in
          let less : p.0 < length t.rows = omega (arith, within-slice_get t.rows id.0 r at) in
          let w = slice_get-within t.rows p.0 less in
          go w.0 w.1 (omega arith) (omega arith)

  pub form-opens : (id : TypeId) (r : TypeRow) → slice_get t.rows id.0 ≡ Some r → form_of c t id ≡ row_form c (form_of c t) (Some r)
  unfolding form_of form_within
  form-opens id r at =
      within-opens (id.0 + 1) id.0 refl refl
    where
      part : (p : TypeId) → part_of r.kind ≡ Some p → form_within c t id.0 p ≡ form_of c t p
      part p is =
          let older = s.parts_older id.0 r p at is in
          let less : p.0 < length t.rows = omega (arith, within-slice_get t.rows id.0 r at) in
          let w = slice_get-within t.rows p.0 less in
          within-stable id.0 (p.0 + 1) p w.0 w.1 older (omega arith)

      within-opens : (n m : ℕ) → n ≡ m + 1 → m ≡ id.0 → form_within c t n id ≡ row_form c (form_of c t) (Some r)
      within-opens zero m e l = absurd (omega arith)
      within-opens (suc n) m e l =
          let same : n ≡ id.0 = omega arith in
          ap (row_form c (form_within c t n)) at ∙ ap (λ k. row_form c (form_within c t k) (Some r)) same ∙ row-alike c (form_within c t id.0) (form_of c t) r part

-- the forms of known types stay where the tables grow

module _ (c : Bool) (t u : Tables) (s : Sound t) (g : Grows t u) where
  within-grows : (n : ℕ) (id : TypeId) (r : TypeRow) → slice_get t.rows id.0 ≡ Some r → form_within c t n id ≡ form_within c u n id
  unfolding form_within
  within-grows zero id r at = refl
  within-grows (suc n) id r at =
      ap (row_form c (form_within c t n)) at
      ∙ row-alike c (form_within c t n) (form_within c u n) r (λ p is. below p is (λ w here. within-grows n p w here))
      ∙ ap (row_form c (form_within c u n)) (sym (row-grows t u g id.0 r at))
    where
      below : (p : TypeId) → part_of r.kind ≡ Some p → ((w : TypeRow) → slice_get t.rows p.0 ≡ Some w → form_within c t n p ≡ form_within c u n p) → form_within c t n p ≡ form_within c u n p
      below p is go =
          let older = s.parts_older id.0 r p at is in
          let less : p.0 < length t.rows = omega (arith, within-slice_get t.rows id.0 r at) in
          let w = slice_get-within t.rows p.0 less in
          go w.0 w.1

  pub form-grows : (id : TypeId) → id.0 < length t.rows → form_of c t id ≡ form_of c u id
  unfolding form_of
  form-grows id less = let w = slice_get-within t.rows id.0 less in within-grows (id.0 + 1) id w.0 w.1

  pub kind-grows : (k : TypeKind) → IsKnown t k → kind_form (form_of c t) k ≡ kind_form (form_of c u) k
  kind-grows k known = kind-alike (form_of c t) (form_of c u) k (λ p is. form-grows p (known-part t k p known is))

-- const aside

pub aside-grows : (t u : Tables) → Sound t → Grows t u → (a b : TypeKind) → IsKnown t a → IsKnown t b → SameAside t a b → SameAside u a b
aside-grows t u s g a b ka kb e = sym (kind-grows false t u s g a ka) ∙ e ∙ kind-grows false t u s g b kb

-- the form of a type is that of its kind
pub aside-form : (t : Tables) → Sound t → (id : TypeId) (r : TypeRow) → slice_get t.rows id.0 ≡ Some r → form_of false t id ≡ kind_form (form_of false t) r.kind
aside-form t s id r at = form-opens false t s id r at

-- the forms of two kinds are the same where the kinds and the forms of their parts are

abbrev pub Matches : (TypeId → Form) → TypeKind → TypeKind → Type 0
Matches f kind.Void kind.Void = Unit {0}
Matches f kind.Nullptr kind.Nullptr = Unit {0}
Matches f (kind.Int a) (kind.Int b) = a ≡ b
Matches f (kind.Enum a) (kind.Enum b) = a ≡ b
Matches f (kind.Pointer a) (kind.Pointer b) = f a ≡ f b
Matches f (kind.Reference a) (kind.Reference b) = f a ≡ f b
Matches f (kind.Array a i) (kind.Array b j) = (f a ≡ f b) × (i ≡ j)
Matches f (kind.Class a) (kind.Class b) = a ≡ b
Matches f _ _ = ⊥

pub form-matches : (f : TypeId → Form) (a b : TypeKind) → kind_form f a ≡ kind_form f b → Matches f a b
form-matches f kind.Void kind.Void e = tt
form-matches f kind.Nullptr kind.Nullptr e = tt
form-matches f (kind.Int a) (kind.Int b) e = cc
form-matches f (kind.Enum a) (kind.Enum b) e = cc
form-matches f (kind.Pointer a) (kind.Pointer b) e = cc
form-matches f (kind.Reference a) (kind.Reference b) e = cc
form-matches f (kind.Array a i) (kind.Array b j) e = ((cc), (cc))
form-matches f (kind.Class a) (kind.Class b) e = cc
form-matches f _ _ e = absurd (cc)

module _ (t : Tables) (s : Sound t) (a b : TypeId) (q r : TypeRow) (at_a : slice_get t.rows a.0 ≡ Some q) (at_b : slice_get t.rows b.0 ≡ Some r) where
  aside-opens : (form_of false t a ≡ form_of false t b) ↔ SameAside t q.kind r.kind
  aside-opens = (
    (λ e. sym (aside-form t s a q at_a) ∙ e ∙ aside-form t s b r at_b),
    (λ e. aside-form t s a q at_a ∙ e ∙ sym (aside-form t s b r at_b)),
  )

  pub aside-pointers : SameAside t (kind.Pointer a) (kind.Pointer b) ↔ SameAside t q.kind r.kind
  aside-pointers = ((λ e. aside-opens.0 (form-matches (form_of false t) (kind.Pointer a) (kind.Pointer b) e)), (λ e. ap Pointer (aside-opens.1 e)))

  pub aside-references : SameAside t (kind.Reference a) (kind.Reference b) ↔ SameAside t q.kind r.kind
  aside-references = ((λ e. aside-opens.0 (form-matches (form_of false t) (kind.Reference a) (kind.Reference b) e)), (λ e. ap Reference (aside-opens.1 e)))

  pub aside-arrays : (i j : ℕ) → SameAside t (kind.Array a i) (kind.Array b j) ↔ (SameAside t q.kind r.kind × (i ≡ j))
  aside-arrays i j = (
    (λ e. let m = form-matches (form_of false t) (kind.Array a i) (kind.Array b j) e in (aside-opens.0 m.0, m.1)),
    (λ e. ap (λ x. Array x i) (aside-opens.1 e.0) ∙ ap (Array (form_of false t b)) e.1),
  )

-- normal types are the same where their numbers are

abbrev with_mark : Bool → Form → Form
with_mark true f = Const f
with_mark false f = f

normal-form : (f : TypeId → Form) (rows : List TypeRow) (konst : Bool) (k : TypeKind) → is_normal_kind rows konst k ≡ true → (if konst then made_const (kind_form f k) else kind_form f k) ≡ with_mark konst (kind_form f k)
normal-form f rows false k h = refl
normal-form f rows true kind.Void h = refl
normal-form f rows true kind.Nullptr h = refl
normal-form f rows true (kind.Int _) h = refl
normal-form f rows true (kind.Enum _) h = refl
normal-form f rows true (kind.Pointer _) h = refl
normal-form f rows true (kind.Class _) h = refl
normal-form f rows true (kind.Reference _) h = absurd (cc)
normal-form f rows true (kind.Array _ _) h = absurd (cc)

never-const : (f : TypeId → Form) (k : TypeKind) (x : Form) → kind_form f k ≡ Const x → ⊥
never-const f kind.Void x e = cc
never-const f kind.Nullptr x e = cc
never-const f (kind.Int _) x e = cc
never-const f (kind.Enum _) x e = cc
never-const f (kind.Pointer _) x e = cc
never-const f (kind.Reference _) x e = cc
never-const f (kind.Array _ _) x e = cc
never-const f (kind.Class _) x e = cc

marks-same : (f : TypeId → Form) (a b : Bool) (j k : TypeKind) → with_mark a (kind_form f j) ≡ with_mark b (kind_form f k) → (a ≡ b) × (kind_form f j ≡ kind_form f k)
marks-same f true true j k e = (refl, (cc))
marks-same f false false j k e = (refl, e)
marks-same f true false j k e = absurd (never-const f k (kind_form f j) (sym e))
marks-same f false true j k e = absurd (never-const f j (kind_form f k) e)

kinds-same : (f : TypeId → Form) (a b : TypeKind) → ((p q : TypeId) → part_of a ≡ Some p → part_of b ≡ Some q → f p ≡ f q → p ≡ q) → Matches f a b → a ≡ b
kinds-same f kind.Void kind.Void h m = refl
kinds-same f kind.Nullptr kind.Nullptr h m = refl
kinds-same f (kind.Int a) (kind.Int b) h m = ap kind.Int m
kinds-same f (kind.Enum a) (kind.Enum b) h m = ap kind.Enum m
kinds-same f (kind.Pointer a) (kind.Pointer b) h m = ap kind.Pointer (h a b refl refl m)
kinds-same f (kind.Reference a) (kind.Reference b) h m = ap kind.Reference (h a b refl refl m)
kinds-same f (kind.Array a i) (kind.Array b j) h m = ap (λ (x : TypeId). kind.Array x i) (h a b refl refl m.0) ∙ ap (kind.Array b) m.1
kinds-same f (kind.Class a) (kind.Class b) h m = ap kind.Class m
kinds-same f _ _ h m = absurd m

rows-same : (q r : TypeRow) → q.kind ≡ r.kind → q.konst ≡ r.konst → q ≡ r
rows-same q r k c = ap (λ (x : TypeKind). record { kind = x; konst = q.konst }) k ∙ ap (λ (x : Bool). record { kind = r.kind; konst = x }) c

module _ (t : Tables) (s : Sound t) where
  row-marked : (id : TypeId) (r : TypeRow) → slice_get t.rows id.0 ≡ Some r → form_of true t id ≡ with_mark r.konst (kind_form (form_of true t) r.kind)
  row-marked id r at = form-opens true t s id r at ∙ normal-form (form_of true t) t.rows r.konst r.kind (s.rows_normal id.0 r at)

  part-stands : (id p : TypeId) (r : TypeRow) → slice_get t.rows id.0 ≡ Some r → part_of r.kind ≡ Some p → (p.0 < id.0) × (w : TypeRow) × (slice_get t.rows p.0 ≡ Some w)
  part-stands id p r at is =
      let older = s.parts_older id.0 r p at is in
      let less : p.0 < length t.rows = omega (arith, within-slice_get t.rows id.0 r at) in
      let w = slice_get-within t.rows p.0 less in
      (older, w.0, w.1)

  ids-below : (n : ℕ) (a b : TypeId) (q r : TypeRow) → a.0 < n → slice_get t.rows a.0 ≡ Some q → slice_get t.rows b.0 ≡ Some r → SameType t a b → a ≡ b
  ids-below zero a b q r less at_a at_b e = absurd (omega arith)
  ids-below (suc n) a b q r less at_a at_b e = of (λ x y v w l ax ay z. ids-below n x y v w l ax ay z)
    where
      of : ((x y : TypeId) (v w : TypeRow) → x.0 < n → slice_get t.rows x.0 ≡ Some v → slice_get t.rows y.0 ≡ Some w → SameType t x y → x ≡ y) → a ≡ b
      of go =
          let m = marks-same (form_of true t) q.konst r.konst q.kind r.kind (sym (row-marked a q at_a) ∙ e ∙ row-marked b r at_b) in
          let part : (x y : TypeId) → part_of q.kind ≡ Some x → part_of r.kind ≡ Some y → form_of true t x ≡ form_of true t y → x ≡ y =
          λ x y ix iy z. let px = part-stands a x q at_a ix in let py = part-stands b y r at_b iy in let lx = px.0 in go x y px.1 py.1 (omega arith) px.2 py.2 z in
          let k = kinds-same (form_of true t) q.kind r.kind part (form-matches (form_of true t) q.kind r.kind m.1) in
          let same = rows-same q r k m.0 in
          let n = s.one_id a.0 b.0 r (at_a ∙ ap Some same) at_b in
          ap (λ (i : ℕ). record { 0 = i }) n

  pub one-number : (a b : TypeId) → a.0 < length t.rows → b.0 < length t.rows → SameType t a b ↔ (a ≡ b)
  one-number a b la lb =
      let q = slice_get-within t.rows a.0 la in
      let r = slice_get-within t.rows b.0 lb in (
        (λ e. ids-below (a.0 + 1) a b q.0 r.0 (omega arith) q.1 r.1 e),
        (λ e. ap (form_of true t) e),
      )
