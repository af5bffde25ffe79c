-- Worked cases: what pointers and references may hold ([basic.compound], [conv.qual]).
use Rattle.std.proofs.Common.{◌≡◌, ℕ, List, [], ◌∷◌, Some, inl, inr, refl, sym, subst, ◌∙◌, slice_get, arith}
use Rattle.std.specs.Prelude.{map}
use Rattle.cx_base.specs.declared.int_type.IntType.TheVariants as int
use Rattle.cx_type_defs.specs.declared.ids.TypeId.{TypeId}
use Rattle.cx_type_defs.specs.declared.ids.ClassId.{ClassId}
use Rattle.cx_type_defs.specs.declared.kind.TypeRow.{TypeRow}
use Rattle.cx_type_defs.specs.declared.kind.TypeKind.{TypeKind}
use Rattle.cx_type_defs.specs.declared.kind.TypeKind.TheVariants as kind
use Rattle.cx_type_defs.specs.Questions.{asked, looked, most_levels}
use Rattle.cx_type_defs.proofs.Lists.{some_inj}
use Rattle.cx_state.specs.declared.kind.Scalar.TheVariants as scalar
use Rattle.cx_state.specs.Objects.{Path, Objects}
use Rattle.cx_state.specs.Places.{row_of}
use Rattle.cx_state.specs.Counts.{new_object}
use Rattle.cx_state.specs.Alike.{Plain, Itself, PointerTo, ArrayOf, IsSimple, Is}
use Rattle.cx_state.specs.Forms.{IsPointee, Designates, MayHold}
use Rattle.cx_state.proofs.SameTypes.{alike-simple, alike-length, simple-alike}
use Rattle.cx_state.proofs.CaseTables.{sample, of_type, place, past, in_object, base, field, elem, int_type, const_int, inner_union, most_derived, three_ints, four_ints, nothing_type, base_type, base_class, derived_class, int_pointer, const_int_pointer}

-- new objects of these types
abbrev new : List TypeId → Objects
new ts = map (λ q. new_object sample (of_type q)) ts

-- a pointer to the type may hold the place; the row of the one and that of the other
abbrev Holds : List TypeId → TypeId → Path → Type 0
Holds ts to p = MayHold sample (new ts) (kind.Pointer to) (scalar.Place p)

-- what stands against it
pointee : (os : Objects) (to : TypeId) (p : Path) (a f : TypeRow) → slice_get sample.rows to.0 ≡ Some a → row_of sample os p ≡ Some f → Designates sample os to p → IsPointee sample a.kind f.kind
pointee os to p a f ea ef d =
    let x = some_inj d.asked a (sym d.is_asked ∙ ea) in
    let y = some_inj d.found f (sym d.is_found ∙ ef) in
    subst (λ (w : TypeRow). IsPointee sample a.kind w.kind) y (subst (λ (w : TypeRow). IsPointee sample w.kind d.found.kind) x d.alike)

other_simple : (k l : TypeKind) → IsSimple k → (k ≡ kind.Void → ⊥) → (l ≡ k → ⊥) → IsPointee sample k l → ⊥
other_simple k l s v n (inl e) = v e
other_simple k l s v n (inr h) = n (alike-simple sample k l s h)

other_length : (a b : TypeId) (n m : ℕ) → (n ≡ m → ⊥) → IsPointee sample (kind.Array a n) (kind.Array b m) → ⊥
other_length a b n m d (inl e) = cc
other_length a b n m d (inr h) = d (alike-length sample a b n m h)

class_number : (c d : ClassId) → kind.Class c ≡ kind.Class d → c.0 ≡ d.0
class_number c d e = cc

-- an int
holds_int : Holds (int_type ∷ []) int_type (place [])
unfolding most_levels asked looked
holds_int = record { asked = _; is_asked = refl; found = _; is_found = refl; alike = inr (simple-alike sample _ tt) }

-- a pointer to const int holds the place of an int
holds_plain : Holds (int_type ∷ []) const_int (place [])
unfolding most_levels asked looked
holds_plain = record { asked = _; is_asked = refl; found = _; is_found = refl; alike = inr (simple-alike sample _ tt) }

-- and after a cast a pointer to int that of a const int
holds_const : Holds (const_int ∷ []) int_type (place [])
unfolding most_levels asked looked
holds_const = record { asked = _; is_asked = refl; found = _; is_found = refl; alike = inr (simple-alike sample _ tt) }

-- int without const, and a pointer to what is so
abbrev whole : TypeKind
whole = kind.Int int.Int

abbrev to_whole : (to : TypeId) (r : TypeRow) → slice_get sample.rows to.0 ≡ Some r → r.kind ≡ whole → Is sample (kind.Pointer to) (PointerTo (Itself whole))
to_whole to r e k = record { part = to; is_made = refl; row = r; is_row = e; part_is = (tt, k) }

-- const aside at the next level too
holds_deep : Holds (int_pointer ∷ []) const_int_pointer (place [])
unfolding most_levels asked looked
holds_deep = record { asked = _; is_asked = refl; found = _; is_found = refl; alike = inr (record { plain = PointerTo (Itself whole); left = to_whole const_int _ refl refl; right = to_whole int_type _ refl refl }) }

-- the place past an array's last element
holds_past : Holds (three_ints ∷ []) int_type (past (elem 3 ∷ []))
unfolding most_levels asked looked
holds_past = record { asked = _; is_asked = refl; found = _; is_found = refl; alike = inr (simple-alike sample _ tt) }

-- a member of a union, though it isn't active
holds_inactive : Holds (inner_union ∷ []) int_type (place (field 1 ∷ []))
unfolding most_levels asked looked
holds_inactive = record { asked = _; is_asked = refl; found = _; is_found = refl; alike = inr (simple-alike sample _ tt) }

-- a base of a base
holds_base : Holds (most_derived ∷ []) base_type (place (base 0 ∷ base 0 ∷ []))
unfolding most_levels asked looked
holds_base = record { asked = _; is_asked = refl; found = _; is_found = refl; alike = inr (simple-alike sample _ tt) }

-- a pointer to void holds any place
holds_any : Holds (most_derived ∷ []) nothing_type (place [])
unfolding most_levels asked looked
holds_any = record { asked = _; is_asked = refl; found = _; is_found = refl; alike = inl refl }

abbrev three : Plain
three = ArrayOf (Itself whole) 3

row_of_three : Is sample (kind.Array int_type 3) three
row_of_three = record { part = int_type; is_made = refl; row = _; is_row = refl; part_is = (tt, refl) }

-- a whole array
holds_array : Holds (three_ints ∷ []) three_ints (place [])
unfolding most_levels asked looked
holds_array = record { asked = _; is_asked = refl; found = _; is_found = refl; alike = inr (record { plain = three; left = row_of_three; right = row_of_three }) }

-- but not one of another length
not_other_length : Holds (three_ints ∷ []) four_ints (place []) → ⊥
unfolding most_levels asked looked
not_other_length h = other_length int_type int_type 4 3 (λ w. omega arith) (pointee (new (three_ints ∷ [])) four_ints (place []) _ _ refl refl h)

-- nor its elements' type
not_element : Holds (three_ints ∷ []) int_type (place []) → ⊥
unfolding most_levels asked looked
not_element h = other_simple whole (kind.Array int_type 3) tt (λ e. cc) (λ e. cc) (pointee (new (three_ints ∷ [])) int_type (place []) _ _ refl refl h)

-- nor a class for its base
not_derived : Holds (most_derived ∷ []) base_type (place []) → ⊥
unfolding most_levels asked looked
not_derived h = other_simple (kind.Class base_class) (kind.Class derived_class) tt (λ e. cc) (λ e. let w = class_number derived_class base_class e in omega arith) (pointee (new (most_derived ∷ [])) base_type (place []) _ _ refl refl h)

-- nor what isn't there
not_there : Holds (int_type ∷ []) int_type (in_object 1 []) → ⊥
not_there h = absurd (cc)

-- a pointer may be null, a reference not
null_pointer : MayHold sample [] (kind.Pointer int_type) scalar.Null
null_pointer = tt

no_null_reference : MayHold sample [] (kind.Reference int_type) scalar.Null → ⊥
no_null_reference h = h
