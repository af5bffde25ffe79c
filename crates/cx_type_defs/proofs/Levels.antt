-- Once the depth is known, and one looks at least so deep, it doesn't matter how deep one looks.
use Rattle.std.proofs.Common.{◌≡◌, ℕ, zero, suc, ◌+◌, ◌≤◌, max, List, [], ◌∷◌, ◌++◌, Option, None, Some, refl, sym, ap, subst, ◌∙◌, slice_get, arith}
use Rattle.std.specs.Prelude.{option_map, option_and_then}
use Rattle.cx_type_defs.specs.declared.ids.TypeId.{TypeId}
use Rattle.cx_type_defs.specs.declared.ids.ClassId.{ClassId}
use Rattle.cx_type_defs.specs.declared.kind.TypeRow.{TypeRow}
use Rattle.cx_type_defs.specs.declared.kind.TypeKind.{TypeKind}
use Rattle.cx_type_defs.specs.declared.kind.TypeKind.TheVariants as kind
use Rattle.cx_type_defs.specs.declared.decl.ClassDecl.{ClassDecl}
use Rattle.cx_type_defs.specs.declared.decl.ClassBody.{ClassBody}
use Rattle.cx_type_defs.specs.declared.decl.ClassKey.{ClassKey}
use Rattle.cx_type_defs.specs.declared.decl.Field.{Field}
use Rattle.cx_type_defs.specs.Tables.{Tables, Grows}
use Rattle.cx_type_defs.specs.Questions.{given, Question, Part, OfType, OfClass, both, each, joined, body_answer, class_answer, address_answer, kind_answer, part_answer, looked, most, depth_of}
use Rattle.cx_type_defs.proofs.Lists.{some_inj, option_and_then-some, option_map-some, both-some, joined-some}
use Rattle.cx_type_defs.proofs.Looking.{kind-keeps, body-keeps, looked-keeps}

pub most-append : (xs ys : List ℕ) → most (xs ++ ys) ≡ max (most xs) (most ys)
most-append [] ys = omega arith
most-append (x ∷ xs) ys = omega (arith, most-append xs ys)

pub each-most : {A : Type 0} (f : A → Option ℕ) (n : ℕ) → ((x : A) (d : ℕ) → f x ≡ Some d → d ≤ n) → (xs : List A) (ds : List ℕ) → each f xs ≡ Some ds → most ds ≤ n
each-most f n h [] ds e = subst (λ z. most z ≤ n) (some_inj [] ds e) (omega arith)
each-most f n h (x ∷ xs) ds e =
    let i = both-some (f x) (each f xs) ds e in
    let a : i.0 ≤ n = h x i.0 i.2 in
    let b : most i.1 ≤ n = each-most f n h xs i.1 i.3 in
    let c : max i.0 (most i.1) ≤ n = omega arith in
    subst (λ z. most z ≤ n) i.4 c

-- the depth is at least 1, and at most one more than that of the parts

module _ (f : Part → Option ℕ) (n : ℕ) (below : (p : Part) (d : ℕ) → f p ≡ Some d → d ≤ n) where
  body-depth : (k : ClassKey) (b : ClassBody) (d : ℕ) → body_answer depth_of f k b ≡ Some d → (1 ≤ d) × (d ≤ suc n)
  body-depth k b d e =
      let i = joined-some (λ bs fs. most (bs ++ fs) + 1) (each (λ c. f (OfClass c)) b.bases) (each (λ (x : Field). f (OfType x.ty)) b.fields) d e in
      let bs : most i.0 ≤ n = each-most (λ c. f (OfClass c)) n (λ c s h. below (OfClass c) s h) b.bases i.0 i.2 in
      let fs : most i.1 ≤ n = each-most (λ (x : Field). f (OfType x.ty)) n (λ x s h. below (OfType x.ty) s h) b.fields i.1 i.3 in
      let m : most (i.0 ++ i.1) ≡ max (most i.0) (most i.1) = most-append i.0 i.1 in
      let z : most (i.0 ++ i.1) + 1 ≡ d = i.4 in
      (omega arith, omega arith)

  class-depth : (o : Option ClassDecl) (d : ℕ) → class_answer depth_of f o ≡ Some d → (1 ≤ d) × (d ≤ suc n)
  class-depth o d e =
      let i = option_and_then-some (λ (w : ClassDecl). option_and_then (body_answer depth_of f w.key) w.body) o d e in
      let j = option_and_then-some (body_answer depth_of f i.0.key) i.0.body d i.2 in
      body-depth i.0.key j.0 d j.2

  one : (d : ℕ) → Some 1 ≡ Some d → (1 ≤ d) × (d ≤ suc n)
  one d e = let z : 1 ≡ d = some_inj 1 d e in (omega arith, omega arith)

  deeper : (p : Part) (d : ℕ) → option_map (λ d. d + 1) (f p) ≡ Some d → (1 ≤ d) × (d ≤ suc n)
  deeper p d e =
      let i = option_map-some (λ d. d + 1) (f p) d e in
      let a : i.0 ≤ n = below p i.0 i.1 in
      let z : i.0 + 1 ≡ d = i.2 in
      (omega arith, omega arith)

  address-depth : (p : Part) (k : TypeKind) (d : ℕ) → address_answer depth_of (f p) k ≡ Some d → (1 ≤ d) × (d ≤ suc n)
  address-depth p (kind.Class c) d e = one d e
  address-depth p kind.Void d e = deeper p d e
  address-depth p kind.Nullptr d e = deeper p d e
  address-depth p (kind.Int _) d e = deeper p d e
  address-depth p (kind.Enum _) d e = deeper p d e
  address-depth p (kind.Pointer _) d e = deeper p d e
  address-depth p (kind.Reference _) d e = deeper p d e
  address-depth p (kind.Array _ _) d e = deeper p d e

  to-depth : (t : Tables) (to : TypeId) (d : ℕ) → option_and_then (λ (r : TypeRow). address_answer depth_of (f (OfType to)) r.kind) (slice_get t.rows to.0) ≡ Some d → (1 ≤ d) × (d ≤ suc n)
  to-depth t to d e =
      let i = option_and_then-some (λ (r : TypeRow). address_answer depth_of (f (OfType to)) r.kind) (slice_get t.rows to.0) d e in
      address-depth (OfType to) i.0.kind d i.2

  pub kind-depth : (t : Tables) (k : TypeKind) (d : ℕ) → kind_answer depth_of t f k ≡ Some d → (1 ≤ d) × (d ≤ suc n)
  kind-depth t kind.Void d e = one d e
  kind-depth t kind.Nullptr d e = one d e
  kind-depth t (kind.Int _) d e = one d e
  kind-depth t (kind.Enum _) d e = one d e
  kind-depth t (kind.Pointer to) d e = to-depth t to d e
  kind-depth t (kind.Reference to) d e = to-depth t to d e
  kind-depth t (kind.Array of _) d e = deeper (OfType of) d e
  kind-depth t (kind.Class c) d e = class-depth (slice_get t.classes c.0) d e

  pub part-depth : (t : Tables) (p : Part) (d : ℕ) → part_answer depth_of t f p ≡ Some d → (1 ≤ d) × (d ≤ suc n)
  part-depth t (OfType id) d e =
      let i = option_and_then-some (λ (w : TypeRow). kind_answer depth_of t f w.kind) (slice_get t.rows id.0) d e in
      kind-depth t i.0.kind d i.2
  part-depth t (OfClass c) d e = class-depth (slice_get t.classes c.0) d e

pub looked-depth : (t : Tables) (n : ℕ) (p : Part) (d : ℕ) → looked depth_of t n p ≡ Some d → (1 ≤ d) × (d ≤ n)
unfolding looked
looked-depth t zero p d e = absurd (cc)
looked-depth t (suc n) p d e = part-depth (looked depth_of t n) n (λ s x h. (looked-depth t n s x h).1) t p d e

-- one level: where the depth is known and the parts' answers agree, the answers agree

pub each-same : {A R : Type 0} (fd : A → Option ℕ) (f g : A → Option R) (m : ℕ) → ((x : A) (d : ℕ) → fd x ≡ Some d → d ≤ m → g x ≡ f x) → (xs : List A) (ds : List ℕ) → each fd xs ≡ Some ds → most ds ≤ m → each g xs ≡ each f xs
each-same fd f g m h [] ds e le = refl
each-same fd f g m h (x ∷ xs) ds e le =
    let i = both-some (fd x) (each fd xs) ds e in
    let z : most (i.0 ∷ i.1) ≤ m = subst (λ w. most w ≤ m) (sym i.4) le in
    let a : i.0 ≤ m = omega arith in
    let b : most i.1 ≤ m = omega arith in
    ap (λ o. both o (each g xs)) (h x i.0 i.2 a) ∙ ap (both (f x)) (each-same fd f g m h xs i.1 i.3 b)

module _ {R : Type 0} (q : Question R) (fd : Part → Option ℕ) (f g : Part → Option R) (m : ℕ) (same : (p : Part) (d : ℕ) → fd p ≡ Some d → d ≤ m → g p ≡ f p) where
  pub body-same : (k : ClassKey) (b : ClassBody) (d : ℕ) → body_answer depth_of fd k b ≡ Some d → d ≤ suc m → body_answer q g k b ≡ body_answer q f k b
  body-same k b d e le =
      let i = joined-some (λ bs fs. most (bs ++ fs) + 1) (each (λ c. fd (OfClass c)) b.bases) (each (λ (x : Field). fd (OfType x.ty)) b.fields) d e in
      let w : most (i.0 ++ i.1) ≡ max (most i.0) (most i.1) = most-append i.0 i.1 in
      let z : most (i.0 ++ i.1) + 1 ≡ d = i.4 in
      let x : most i.0 ≤ m = omega arith in
      let y : most i.1 ≤ m = omega arith in
      let bs : each (λ c. g (OfClass c)) b.bases ≡ each (λ c. f (OfClass c)) b.bases = each-same (λ c. fd (OfClass c)) (λ c. f (OfClass c)) (λ c. g (OfClass c)) m (λ c s h l. same (OfClass c) s h l) b.bases i.0 i.2 x in
      let fs : each (λ (x : Field). g (OfType x.ty)) b.fields ≡ each (λ (x : Field). f (OfType x.ty)) b.fields = each-same (λ (x : Field). fd (OfType x.ty)) (λ (x : Field). f (OfType x.ty)) (λ (x : Field). g (OfType x.ty)) m (λ x s h l. same (OfType x.ty) s h l) b.fields i.1 i.3 y in
      ap (λ o. joined (q.of_class k b.flags) o (each (λ (x : Field). g (OfType x.ty)) b.fields)) bs ∙ ap (joined (q.of_class k b.flags) (each (λ c. f (OfClass c)) b.bases)) fs

  class-same : (o : Option ClassDecl) (d : ℕ) → class_answer depth_of fd o ≡ Some d → d ≤ suc m → class_answer q g o ≡ class_answer q f o
  class-same None d e le = absurd (cc)
  class-same (Some w) d e le =
      let j = option_and_then-some (body_answer depth_of fd w.key) w.body d e in
      ap (option_and_then (body_answer q g w.key)) j.1 ∙ body-same w.key j.0 d j.2 le ∙ sym (ap (option_and_then (body_answer q f w.key)) j.1)

  deeper-same : (p : Part) (d : ℕ) → option_map (λ d. d + 1) (fd p) ≡ Some d → d ≤ suc m → g p ≡ f p
  deeper-same p d e le =
      let i = option_map-some (λ d. d + 1) (fd p) d e in
      let z : i.0 + 1 ≡ d = i.2 in
      same p i.0 i.1 (omega arith)

  address-same : (p : Part) (k : TypeKind) (d : ℕ) → address_answer depth_of (fd p) k ≡ Some d → d ≤ suc m → address_answer q (g p) k ≡ address_answer q (f p) k
  address-same p (kind.Class c) d e le = refl
  address-same p kind.Void d e le = ap (given q.of_address) (deeper-same p d e le)
  address-same p kind.Nullptr d e le = ap (given q.of_address) (deeper-same p d e le)
  address-same p (kind.Int _) d e le = ap (given q.of_address) (deeper-same p d e le)
  address-same p (kind.Enum _) d e le = ap (given q.of_address) (deeper-same p d e le)
  address-same p (kind.Pointer _) d e le = ap (given q.of_address) (deeper-same p d e le)
  address-same p (kind.Reference _) d e le = ap (given q.of_address) (deeper-same p d e le)
  address-same p (kind.Array _ _) d e le = ap (given q.of_address) (deeper-same p d e le)

  to-same : (to : TypeId) (o : Option TypeRow) (d : ℕ) → option_and_then (λ (r : TypeRow). address_answer depth_of (fd (OfType to)) r.kind) o ≡ Some d → d ≤ suc m
      → option_and_then (λ (r : TypeRow). address_answer q (g (OfType to)) r.kind) o ≡ option_and_then (λ (r : TypeRow). address_answer q (f (OfType to)) r.kind) o
  to-same to None d e le = refl
  to-same to (Some r) d e le = address-same (OfType to) r.kind d e le

  pub kind-same : (t : Tables) (k : TypeKind) (d : ℕ) → kind_answer depth_of t fd k ≡ Some d → d ≤ suc m → kind_answer q t g k ≡ kind_answer q t f k
  kind-same t kind.Void d e le = refl
  kind-same t kind.Nullptr d e le = refl
  kind-same t (kind.Int _) d e le = refl
  kind-same t (kind.Enum _) d e le = refl
  kind-same t (kind.Pointer to) d e le = to-same to (slice_get t.rows to.0) d e le
  kind-same t (kind.Reference to) d e le = to-same to (slice_get t.rows to.0) d e le
  kind-same t (kind.Array of n) d e le = ap (option_map (q.of_array n)) (deeper-same (OfType of) d e le)
  kind-same t (kind.Class c) d e le = class-same (slice_get t.classes c.0) d e le

  row-same : (t : Tables) (o : Option TypeRow) (d : ℕ) → option_and_then (λ (w : TypeRow). kind_answer depth_of t fd w.kind) o ≡ Some d → d ≤ suc m
      → option_and_then (λ (w : TypeRow). kind_answer q t g w.kind) o ≡ option_and_then (λ (w : TypeRow). kind_answer q t f w.kind) o
  row-same t None d e le = refl
  row-same t (Some r) d e le = kind-same t r.kind d e le

  pub part-same : (t : Tables) (p : Part) (d : ℕ) → part_answer depth_of t fd p ≡ Some d → d ≤ suc m → part_answer q t g p ≡ part_answer q t f p
  part-same t (OfType id) d e le = row-same t (slice_get t.rows id.0) d e le
  part-same t (OfClass c) d e le = class-same (slice_get t.classes c.0) d e le

pub looked-same : {R : Type 0} (q : Question R) (t : Tables) (n m : ℕ) (p : Part) (d : ℕ) → looked depth_of t n p ≡ Some d → d ≤ m → looked q t m p ≡ looked q t n p
unfolding looked
looked-same q t zero m p d e le = absurd (cc)
looked-same q t (suc n) zero p d e le = let w = (looked-depth t (suc n) p d e).0 in absurd (omega arith)
looked-same q t (suc n) (suc m) p d e le =
    part-same q (looked depth_of t n) (looked q t n) (looked q t m) m (λ s x h l. looked-same q t n m s x h l) t p d e le

-- the equation of a question: the number of levels is no matter

pub looked-opens : {R : Type 0} (q : Question R) (t : Tables) (n : ℕ) (p : Part) (d : ℕ) → looked depth_of t (suc n) p ≡ Some d → looked q t (suc n) p ≡ part_answer q t (looked q t (suc n)) p
unfolding looked
looked-opens q t n p d e =
    let w : d ≤ suc n = (looked-depth t (suc n) p d e).1 in
    sym (part-same q (looked depth_of t n) (looked q t n) (looked q t (suc n)) n (λ s x h l. looked-same q t n (suc n) s x h (omega arith)) t p d e w)

-- a row or a class that came in between is answered as one of its form was before

pub looked-row : {R : Type 0} (q : Question R) (t u : Tables) → Grows t u → (n : ℕ) (id : TypeId) (row : TypeRow) → slice_get u.rows id.0 ≡ Some row
    → (d : ℕ) → kind_answer depth_of t (looked depth_of t (suc n)) row.kind ≡ Some d → d ≤ suc n
    → (r : R) → kind_answer q t (looked q t (suc n)) row.kind ≡ Some r → looked q u (suc n) (OfType id) ≡ Some r
unfolding looked
looked-row q t u grows n id row at d ed le r e =
    let s : kind_answer q t (looked q t n) row.kind ≡ kind_answer q t (looked q t (suc n)) row.kind =
    kind-same q (looked depth_of t (suc n)) (looked q t (suc n)) (looked q t n) n (λ p x h l. looked-same q t (suc n) n p x h l) t row.kind d ed le in
    let k : kind_answer q u (looked q u n) row.kind ≡ Some r =
    kind-keeps q (looked q t n) (looked q u n) (record { keep = λ p x h. looked-keeps q t u grows n n (omega arith) p x h }) t u grows row.kind r (s ∙ e) in
    ap (option_and_then (λ (w : TypeRow). kind_answer q u (looked q u n) w.kind)) at ∙ k

pub looked-body : {R : Type 0} (q : Question R) (t u : Tables) → Grows t u → (n : ℕ) (c : ClassId) (k : ClassKey) (b : ClassBody)
    → ((R : Type 0) (q : Question R) (below : Part → Option R) → class_answer q below (slice_get u.classes c.0) ≡ body_answer q below k b)
    → (d : ℕ) → body_answer depth_of (looked depth_of t (suc n)) k b ≡ Some d → d ≤ suc n
    → (r : R) → body_answer q (looked q t (suc n)) k b ≡ Some r → looked q u (suc n) (OfClass c) ≡ Some r
unfolding looked
looked-body {R} q t u grows n c k b at d ed le r e =
    let s : body_answer q (looked q t n) k b ≡ body_answer q (looked q t (suc n)) k b =
    body-same q (looked depth_of t (suc n)) (looked q t (suc n)) (looked q t n) n (λ p x h l. looked-same q t (suc n) n p x h l) k b d ed le in
    at R q (looked q u n) ∙ body-keeps q (looked q t n) (looked q u n) (record { keep = λ p x h. looked-keeps q t u grows n n (omega arith) p x h }) k b r (s ∙ e)
