-- How deep one looks doesn't matter once the depth is known, and an answer stays where the tables grow.
use Rattle.std.proofs.Common.{◌≡◌, ℕ, zero, suc, ◌≤◌, Option, None, Some, refl, ap, ◌∙◌, slice_get, arith}
use Rattle.std.specs.Prelude.{option_map, option_and_then}
use Rattle.cx_base.specs.declared.int_type.IntType.{IntType}
use Rattle.cx_type_defs.specs.declared.ids.TypeId.{TypeId}
use Rattle.cx_type_defs.specs.declared.ids.ClassId.{ClassId}
use Rattle.cx_type_defs.specs.declared.ids.EnumId.{EnumId}
use Rattle.cx_type_defs.specs.declared.kind.TypeRow.{TypeRow}
use Rattle.cx_type_defs.specs.declared.kind.TypeKind.{TypeKind}
use Rattle.cx_type_defs.specs.declared.kind.TypeKind.TheVariants as kind
use Rattle.cx_type_defs.specs.declared.decl.ClassDecl.{ClassDecl}
use Rattle.cx_type_defs.specs.declared.decl.ClassBody.{ClassBody}
use Rattle.cx_type_defs.specs.declared.decl.ClassKey.{ClassKey}
use Rattle.cx_type_defs.specs.declared.decl.Field.{Field}
use Rattle.cx_type_defs.specs.declared.decl.EnumDecl.{EnumDecl}
use Rattle.cx_type_defs.specs.declared.decl.EnumEnd.{EnumEnd}
use Rattle.cx_type_defs.specs.Tables.{Tables, Stays, ClassGrows, EnumGrows, Grows, int_size, under_at, under_of}
use Rattle.cx_type_defs.specs.Questions.{Question, Part, OfType, OfClass, each, joined, body_answer, class_answer, address_answer, kind_answer, part_answer, looked, most_levels, asked}
use Rattle.cx_type_defs.proofs.Lists.{option_and_then-some, option_map-some, joined-some, Keeps, each-keeps, given-keeps, Along-at, Along-same, Along-then}

-- Grows is reflexive and transitive

pub Stays-same : {A : Type 0} (a : Option A) → Stays a a
Stays-same None = tt
Stays-same (Some x) = refl

pub Stays-then : {A : Type 0} (a b c : Option A) → Stays a b → Stays b c → Stays a c
Stays-then None b c g h = tt
Stays-then (Some x) None c g h = absurd (cc)
Stays-then (Some x) (Some y) c g h = h ∙ g

pub Stays-some : {A : Type 0} (a b : Option A) (x : A) → Stays a b → a ≡ Some x → b ≡ Some x
Stays-some None b x g e = absurd (cc)
Stays-some (Some y) b x g e = g ∙ e

pub ClassGrows-same : (d : ClassDecl) → ClassGrows d d
ClassGrows-same d = record { same_name = refl; same_key = refl; body_stays = Stays-same d.body }

pub ClassGrows-then : (a b c : ClassDecl) → ClassGrows a b → ClassGrows b c → ClassGrows a c
ClassGrows-then a b c g h = record { same_name = h.same_name ∙ g.same_name; same_key = h.same_key ∙ g.same_key; body_stays = Stays-then a.body b.body c.body g.body_stays h.body_stays }

pub EnumGrows-same : (d : EnumDecl) → EnumGrows d d
EnumGrows-same d = record { same_name = refl; same_scope = refl; same_fixed = refl; end_stays = Stays-same d.end }

pub EnumGrows-then : (a b c : EnumDecl) → EnumGrows a b → EnumGrows b c → EnumGrows a c
EnumGrows-then a b c g h = record { same_name = h.same_name ∙ g.same_name; same_scope = h.same_scope ∙ g.same_scope; same_fixed = h.same_fixed ∙ g.same_fixed; end_stays = Stays-then a.end b.end c.end g.end_stays h.end_stays }

pub Grows-same : (t : Tables) → Grows t t
Grows-same t = record {
  row_list = Along-same (λ (a b : TypeRow). b ≡ a) (λ x. refl) t.rows;
  class_list = Along-same ClassGrows ClassGrows-same t.classes;
  enum_list = Along-same EnumGrows EnumGrows-same t.enums;
}

pub Grows-then : (a b c : Tables) → Grows a b → Grows b c → Grows a c
Grows-then a b c g h = record {
  row_list = Along-then (λ (x y : TypeRow). y ≡ x) (λ x y z p q. q ∙ p) a.rows b.rows c.rows g.row_list h.row_list;
  class_list = Along-then ClassGrows ClassGrows-then a.classes b.classes c.classes g.class_list h.class_list;
  enum_list = Along-then EnumGrows EnumGrows-then a.enums b.enums c.enums g.enum_list h.enum_list;
}

-- what stands in the tables stands in those that they grow to

pub row-grows : (t u : Tables) → Grows t u → (i : ℕ) (r : TypeRow) → slice_get t.rows i ≡ Some r → slice_get u.rows i ≡ Some r
row-grows t u g i r e = let a = Along-at (λ (x y : TypeRow). y ≡ x) t.rows u.rows g.row_list i r e in a.1 ∙ ap Some a.2

pub under_of-grows : (f h : Option IntType) (a b : Option EnumEnd) (x : IntType) → h ≡ f → Stays a b → under_of f a ≡ Some x → under_of h b ≡ Some x
under_of-grows f h a b x same stays e = ap (λ o. under_of o b) same ∙ under_of-stays f a b x stays e
  where
    under_of-stays : (f : Option IntType) (a b : Option EnumEnd) (x : IntType) → Stays a b → under_of f a ≡ Some x → under_of f b ≡ Some x
    under_of-stays (Some y) a b x stays e = e
    under_of-stays None None b x stays e = absurd (cc)
    under_of-stays None (Some z) b x stays e = ap (option_map (λ (w : EnumEnd). w.under)) stays ∙ e

pub under_at-grows : (t u : Tables) → Grows t u → (id : EnumId) (x : IntType) → under_at t id ≡ Some x → under_at u id ≡ Some x
under_at-grows t u g id x e =
    let i = option_and_then-some (λ (d : EnumDecl). under_of d.fixed d.end) (slice_get t.enums id.0) x e in
    let a = Along-at EnumGrows t.enums u.enums g.enum_list id.0 i.0 i.1 in
    ap (option_and_then (λ (d : EnumDecl). under_of d.fixed d.end)) a.1 ∙ under_of-grows i.0.fixed a.0.fixed i.0.end a.0.end x a.2.same_fixed a.2.end_stays i.2

-- one level: an answer stays where the tables grow and the answers below stay

module _ {R : Type 0} (q : Question R) (f g : Part → Option R) (below : Keeps f g) where
  pub body-keeps : (k : ClassKey) (b : ClassBody) (r : R) → body_answer q f k b ≡ Some r → body_answer q g k b ≡ Some r
  body-keeps k b r e =
      let i = joined-some (q.of_class k b.flags) (each (λ c. f (OfClass c)) b.bases) (each (λ (x : Field). f (OfType x.ty)) b.fields) r e in
      let bs : each (λ c. g (OfClass c)) b.bases ≡ Some i.0 = each-keeps (λ c. f (OfClass c)) (λ c. g (OfClass c)) (record { keep = λ c s h. below.keep (OfClass c) s h }) b.bases i.0 i.2 in
      let fs : each (λ (x : Field). g (OfType x.ty)) b.fields ≡ Some i.1 = each-keeps (λ (x : Field). f (OfType x.ty)) (λ (x : Field). g (OfType x.ty)) (record { keep = λ x s h. below.keep (OfType x.ty) s h }) b.fields i.1 i.3 in
      ap (λ o. joined (q.of_class k b.flags) o (each (λ (x : Field). g (OfType x.ty)) b.fields)) bs ∙ ap (λ o. joined (q.of_class k b.flags) (Some i.0) o) fs ∙ ap Some i.4

  pub class-keeps : (t u : Tables) → Grows t u → (c : ClassId) (r : R) → class_answer q f (slice_get t.classes c.0) ≡ Some r → class_answer q g (slice_get u.classes c.0) ≡ Some r
  class-keeps t u grows c r e =
      let i = option_and_then-some (λ (d : ClassDecl). option_and_then (body_answer q f d.key) d.body) (slice_get t.classes c.0) r e in
      let j = option_and_then-some (body_answer q f i.0.key) i.0.body r i.2 in
      let a = Along-at ClassGrows t.classes u.classes grows.class_list c.0 i.0 i.1 in
      let body : a.0.body ≡ Some j.0 = Stays-some i.0.body a.0.body j.0 a.2.body_stays j.1 in
      let answer : body_answer q g i.0.key j.0 ≡ Some r = body-keeps i.0.key j.0 r j.2 in
      ap (class_answer q g) a.1 ∙ ap (option_and_then (body_answer q g a.0.key)) body ∙ ap (λ k. body_answer q g k j.0) a.2.same_key ∙ answer

  pub address-keeps : (p : Part) (k : TypeKind) (r : R) → address_answer q (f p) k ≡ Some r → address_answer q (g p) k ≡ Some r
  address-keeps p (kind.Class c) r e = e
  address-keeps p kind.Void r e = given-keeps q.of_address (f p) (g p) (λ x h. below.keep p x h) r e
  address-keeps p kind.Nullptr r e = given-keeps q.of_address (f p) (g p) (λ x h. below.keep p x h) r e
  address-keeps p (kind.Int _) r e = given-keeps q.of_address (f p) (g p) (λ x h. below.keep p x h) r e
  address-keeps p (kind.Enum _) r e = given-keeps q.of_address (f p) (g p) (λ x h. below.keep p x h) r e
  address-keeps p (kind.Pointer _) r e = given-keeps q.of_address (f p) (g p) (λ x h. below.keep p x h) r e
  address-keeps p (kind.Reference _) r e = given-keeps q.of_address (f p) (g p) (λ x h. below.keep p x h) r e
  address-keeps p (kind.Array _ _) r e = given-keeps q.of_address (f p) (g p) (λ x h. below.keep p x h) r e

  pub to-keeps : (t u : Tables) → Grows t u → (to : TypeId) (r : R) → option_and_then (λ (w : TypeRow). address_answer q (f (OfType to)) w.kind) (slice_get t.rows to.0) ≡ Some r → option_and_then (λ (w : TypeRow). address_answer q (g (OfType to)) w.kind) (slice_get u.rows to.0) ≡ Some r
  to-keeps t u grows to r e =
      let i = option_and_then-some (λ (w : TypeRow). address_answer q (f (OfType to)) w.kind) (slice_get t.rows to.0) r e in
      ap (option_and_then (λ (w : TypeRow). address_answer q (g (OfType to)) w.kind)) (row-grows t u grows to.0 i.0 i.1) ∙ address-keeps (OfType to) i.0.kind r i.2

  pub kind-keeps : (t u : Tables) → Grows t u → (k : TypeKind) (r : R) → kind_answer q t f k ≡ Some r → kind_answer q u g k ≡ Some r
  kind-keeps t u grows kind.Void r e = e
  kind-keeps t u grows kind.Nullptr r e = e
  kind-keeps t u grows (kind.Int _) r e = e
  kind-keeps t u grows (kind.Enum id) r e =
      given-keeps q.of_enum (option_map int_size (under_at t id)) (option_map int_size (under_at u id))
      (λ x h. let i = option_map-some int_size (under_at t id) x h in ap (option_map int_size) (under_at-grows t u grows id i.0 i.1) ∙ ap Some i.2) r e
  kind-keeps t u grows (kind.Pointer to) r e = to-keeps t u grows to r e
  kind-keeps t u grows (kind.Reference to) r e = to-keeps t u grows to r e
  kind-keeps t u grows (kind.Array of n) r e =
      let i = option_map-some (q.of_array n) (f (OfType of)) r e in
      ap (option_map (q.of_array n)) (below.keep (OfType of) i.0 i.1) ∙ ap Some i.2
  kind-keeps t u grows (kind.Class c) r e = class-keeps t u grows c r e

  pub part-keeps : (t u : Tables) → Grows t u → (p : Part) (r : R) → part_answer q t f p ≡ Some r → part_answer q u g p ≡ Some r
  part-keeps t u grows (OfType id) r e =
      let i = option_and_then-some (λ (w : TypeRow). kind_answer q t f w.kind) (slice_get t.rows id.0) r e in
      ap (option_and_then (λ (w : TypeRow). kind_answer q u g w.kind)) (row-grows t u grows id.0 i.0 i.1) ∙ kind-keeps t u grows i.0.kind r i.2
  part-keeps t u grows (OfClass c) r e = class-keeps t u grows c r e

-- an answer stays where the tables grow, and where one looks deeper
pub looked-keeps : {R : Type 0} (q : Question R) (t u : Tables) → Grows t u → (n m : ℕ) → n ≤ m → (p : Part) (r : R) → looked q t n p ≡ Some r → looked q u m p ≡ Some r
unfolding looked
looked-keeps q t u grows zero m le p r e = absurd (cc)
looked-keeps q t u grows (suc n) zero le p r e = absurd (omega arith)
looked-keeps q t u grows (suc n) (suc m) le p r e =
    part-keeps q (looked q t n) (looked q u m) (record { keep = λ s x h. looked-keeps q t u grows n m (omega arith) s x h }) t u grows p r e

pub asked-keeps : {R : Type 0} (q : Question R) (t u : Tables) → Grows t u → (p : Part) (r : R) → asked q t p ≡ Some r → asked q u p ≡ Some r
unfolding asked
asked-keeps q t u grows p r e = looked-keeps q t u grows most_levels most_levels (omega arith) p r e
