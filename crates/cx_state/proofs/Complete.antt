-- A complete type has a new tree, in each phase.
use Rattle.std.proofs.Common.{◌≡◌, ℕ, zero, suc, true, List, [], ◌∷◌, Option, None, Some, refl, sym, ap, ◌∙◌, slice_get}
use Rattle.std.specs.Prelude.{option_map, option_and_then, is_some, unwrap_or}
use Rattle.cx_type_defs.specs.declared.ids.TypeId.{TypeId}
use Rattle.cx_type_defs.specs.declared.kind.TypeRow.{TypeRow}
use Rattle.cx_type_defs.specs.declared.kind.TypeKind.{TypeKind}
use Rattle.cx_type_defs.specs.declared.kind.TypeKind.TheVariants as kind
use Rattle.cx_type_defs.specs.declared.decl.Field.{Field}
use Rattle.cx_type_defs.specs.declared.decl.ClassBody.{ClassBody}
use Rattle.cx_type_defs.specs.declared.decl.ClassDecl.{ClassDecl}
use Rattle.cx_type_defs.specs.Tables.{Tables, int_size, under_at}
use Rattle.cx_type_defs.specs.Questions.{Question, Part, OfType, OfClass, both, each, joined, body_answer, class_answer, address_answer, kind_answer, part_answer, looked, most_levels, asked, given, extent_of, cells_of, is_complete}
use Rattle.cx_type_defs.proofs.Lists.{option_and_then-some, option_map-some, both-some, joined-some}
use Rattle.cx_state.specs.declared.kind.Phase.{Phase}
use Rattle.cx_state.specs.Objects.{Tree}
use Rattle.cx_state.specs.Steps.{blank, new_in, new_tree}

pub is_some-true : {A : Type 0} (o : Option A) → is_some o ≡ true → (x : A) × (o ≡ Some x)
is_some-true None e = absurd (cc)
is_some-true (Some x) e = (x, refl)

-- where f answers, g does
pub record Follows {A R S : Type 0} (f : A → Option R) (g : A → Option S) : Type 0 where
  pub follow : (a : A) (x : R) → f a ≡ Some x → (y : S) × (g a ≡ Some y)

each-follows : {A R S : Type 0} (f : A → Option R) (g : A → Option S) → Follows f g → (xs : List A) (rs : List R) → each f xs ≡ Some rs → (ss : List S) × (each g xs ≡ Some ss)
each-follows f g h [] rs e = ([], refl)
each-follows f g h (x ∷ xs) rs e =
    let i = both-some (f x) (each f xs) rs e in
    let a = h.follow x i.0 i.2 in
    let b = each-follows f g h xs i.1 i.3 in
    (a.0 ∷ b.0, ap (λ o. both o (each g xs)) a.1 ∙ ap (λ o. both (Some a.0) o) b.1)

-- A question that isn't answered for void is answered only where one is that always has an answer for an enumeration, a
-- pointer and a reference.
module _ {R S : Type 0} (q : Question R) (w : Question S) (none : q.of_void ≡ None) (enum : (n : Option ℕ) → (y : S) × (given w.of_enum n ≡ Some y)) (address : (o : Option S) → (y : S) × (given w.of_address o ≡ Some y)) where
  class-answered : (g : Part → Option S) (o : Option ClassDecl) (d : ClassDecl) (b : ClassBody) (bs ms : List S) → o ≡ Some d → d.body ≡ Some b → each (λ c. g (OfClass c)) b.bases ≡ Some bs → each (λ (v : Field). g (OfType v.ty)) b.fields ≡ Some ms
      → class_answer w g o ≡ Some (w.of_class d.key b.flags bs ms)
  class-answered g o d b bs ms eo eb e f =
      ap (class_answer w g) eo ∙ ap (option_and_then (body_answer w g d.key)) eb
      ∙ ap (λ l. joined (w.of_class d.key b.flags) l (each (λ (v : Field). g (OfType v.ty)) b.fields)) e
      ∙ ap (λ l. joined (w.of_class d.key b.flags) (Some bs) l) f

  class-follows : (f : Part → Option R) (g : Part → Option S) → Follows f g → (o : Option ClassDecl) (x : R) → class_answer q f o ≡ Some x → (y : S) × (class_answer w g o ≡ Some y)
  class-follows f g h o x e =
      let d = option_and_then-some (λ (d : ClassDecl). option_and_then (body_answer q f d.key) d.body) o x e in
      let b = option_and_then-some (body_answer q f d.0.key) d.0.body x d.2 in
      let j = joined-some (q.of_class d.0.key b.0.flags) (each (λ c. f (OfClass c)) b.0.bases) (each (λ (v : Field). f (OfType v.ty)) b.0.fields) x b.2 in
      let bs = each-follows (λ c. f (OfClass c)) (λ c. g (OfClass c)) (record { follow = λ c. h.follow (OfClass c) }) b.0.bases j.0 j.2 in
      let ms = each-follows (λ (v : Field). f (OfType v.ty)) (λ (v : Field). g (OfType v.ty)) (record { follow = λ v. h.follow (OfType v.ty) }) b.0.fields j.1 j.3 in
      (w.of_class d.0.key b.0.flags bs.0 ms.0, class-answered g o d.0 b.0 bs.0 ms.0 d.1 b.1 bs.1 ms.1)

  address-some : (o : Option S) (k : TypeKind) → (y : S) × (address_answer w o k ≡ Some y)
  address-some o (kind.Class c) = (w.of_scalar 8, refl)
  address-some o kind.Void = address o
  address-some o kind.Nullptr = address o
  address-some o (kind.Int i) = address o
  address-some o (kind.Enum i) = address o
  address-some o (kind.Pointer to) = address o
  address-some o (kind.Reference to) = address o
  address-some o (kind.Array to n) = address o

  to-some : (t : Tables) (f : Part → Option R) (g : Part → Option S) (to : TypeId) (x : R) → option_and_then (λ (r : TypeRow). address_answer q (f (OfType to)) r.kind) (slice_get t.rows to.0) ≡ Some x
      → (y : S) × (option_and_then (λ (r : TypeRow). address_answer w (g (OfType to)) r.kind) (slice_get t.rows to.0) ≡ Some y)
  to-some t f g to x e =
      let i = option_and_then-some (λ (r : TypeRow). address_answer q (f (OfType to)) r.kind) (slice_get t.rows to.0) x e in
      let y = address-some (g (OfType to)) i.0.kind in
      (y.0, ap (option_and_then (λ (r : TypeRow). address_answer w (g (OfType to)) r.kind)) i.1 ∙ y.1)

  kind-follows : (t : Tables) (f : Part → Option R) (g : Part → Option S) → Follows f g → (k : TypeKind) (x : R) → kind_answer q t f k ≡ Some x → (y : S) × (kind_answer w t g k ≡ Some y)
  kind-follows t f g h kind.Void x e = absurd (cc)
  kind-follows t f g h kind.Nullptr x e = (w.of_scalar 8, refl)
  kind-follows t f g h (kind.Int i) x e = (w.of_scalar (int_size i), refl)
  kind-follows t f g h (kind.Enum i) x e = enum (option_map int_size (under_at t i))
  kind-follows t f g h (kind.Pointer to) x e = to-some t f g to x e
  kind-follows t f g h (kind.Reference to) x e = to-some t f g to x e
  kind-follows t f g h (kind.Array to n) x e =
      let i = option_map-some (q.of_array n) (f (OfType to)) x e in
      let y = h.follow (OfType to) i.0 i.1 in
      (w.of_array n y.0, ap (option_map (w.of_array n)) y.1)
  kind-follows t f g h (kind.Class c) x e = class-follows f g h (slice_get t.classes c.0) x e

  part-follows : (t : Tables) (f : Part → Option R) (g : Part → Option S) → Follows f g → (a : Part) (x : R) → part_answer q t f a ≡ Some x → (y : S) × (part_answer w t g a ≡ Some y)
  part-follows t f g h (OfType id) x e =
      let i = option_and_then-some (λ (r : TypeRow). kind_answer q t f r.kind) (slice_get t.rows id.0) x e in
      let y = kind-follows t f g h i.0.kind x i.2 in
      (y.0, ap (option_and_then (λ (r : TypeRow). kind_answer w t g r.kind)) i.1 ∙ y.1)
  part-follows t f g h (OfClass c) x e = class-follows f g h (slice_get t.classes c.0) x e

  looked-follows : (t : Tables) (n : ℕ) → Follows (looked q t n) (looked w t n)
  unfolding looked
  looked-follows t zero = record { follow = λ a x e. absurd (cc) }
  looked-follows t (suc n) = record { follow = part-follows t (looked q t n) (looked w t n) (looked-follows t n) }

  pub asked-follows : (t : Tables) → Follows (asked q t) (asked w t)
  unfolding asked
  asked-follows t = looked-follows t most_levels

pub complete-cells : (t : Tables) (ty : TypeId) → is_complete t ty ≡ true → (n : ℕ) × (asked cells_of t (OfType ty) ≡ Some n)
complete-cells t ty e = let i = is_some-true (asked extent_of t (OfType ty)) e in (asked-follows extent_of cells_of refl (λ n. (1, refl)) (λ o. (1, refl)) t).follow (OfType ty) i.0 i.1

pub complete-new : (t : Tables) (p : Phase) (ty : TypeId) → is_complete t ty ≡ true → (x : Tree) × (asked (new_in p) t (OfType ty) ≡ Some x)
complete-new t p ty e = let i = is_some-true (asked extent_of t (OfType ty)) e in (asked-follows extent_of (new_in p) refl (λ n. (blank, refl)) (λ o. (blank, refl)) t).follow (OfType ty) i.0 i.1

pub complete-tree : (t : Tables) (p : Phase) (ty : TypeId) → is_complete t ty ≡ true → asked (new_in p) t (OfType ty) ≡ Some (new_tree t p ty)
complete-tree t p ty e = let x = complete-new t p ty e in x.1 ∙ ap Some (sym (ap (λ o. unwrap_or o blank) x.1))
