-- What is asked of a type, by cases on its form ([basic.types.general], [basic.compound], [class.mem]).
--
-- A question looks into a type: from an array to its elements, from a class to its bases and members, and, for the
-- depth alone, from a pointer or reference to what it leads to, where that isn't a class. This ends because it looks
-- 512 levels deep at most, and no type of the tables is deeper; so once a type's depth is known, it doesn't matter
-- how much deeper one looks.
use Rattle.std.specs.Prelude.{ℕ, zero, suc, ◌+◌, ◌-◌, ◌*◌, ◌/◌, max, Bool, true, false, ◌&&◌, ◌||◌, List, [], ◌∷◌, ◌++◌, Option, None, Some, Result, Ok, Err, slice_get, option_and_then, option_map, map, sum, is_some, unwrap_or, if◌then◌else◌}
use Rattle.cx_base.specs.declared.rule.Rule.{Rule}
use Rattle.cx_base.specs.declared.rule.Rule.TheVariants as rule
use Rattle.cx_type_defs.specs.declared.ids.TypeId.{TypeId}
use Rattle.cx_type_defs.specs.declared.ids.ClassId.{ClassId}
use Rattle.cx_type_defs.specs.declared.kind.TypeRow.{TypeRow}
use Rattle.cx_type_defs.specs.declared.kind.TypeKind.{TypeKind}
use Rattle.cx_type_defs.specs.declared.kind.TypeKind.TheVariants as kind
use Rattle.cx_type_defs.specs.declared.decl.ClassDecl.{ClassDecl}
use Rattle.cx_type_defs.specs.declared.decl.ClassBody.{ClassBody}
use Rattle.cx_type_defs.specs.declared.decl.ClassFlags.{ClassFlags}
use Rattle.cx_type_defs.specs.declared.decl.Field.{Field}
use Rattle.cx_type_defs.specs.declared.decl.Extent.{Extent}
use Rattle.cx_type_defs.specs.declared.decl.ClassKey.{ClassKey}
use Rattle.cx_type_defs.specs.declared.decl.ClassKey.TheVariants as key
use Rattle.cx_type_defs.specs.Tables.{Tables, int_size, under_at}

-- what an answer rests on: on nothing more, or on something that may not be known yet
pub data From (A R : Type 0) : Type 0 where
  Always : R → From A R
  By : (A → R) → From A R

abbrev pub given : {A R : Type 0} → From A R → Option A → Option R
given (Always r) known = Some r
given (By f) known = option_map f known

-- a question, by its answer for each form of type
pub record Question (R : Type 0) : Type 0 where
  pub of_void : Option R
  pub of_scalar : ℕ → R  -- of so many bytes
  pub of_enum : From ℕ R  -- by the bytes of its underlying type
  pub of_address : From R R  -- a pointer or reference, by the answer for what it leads to, if no class
  pub of_array : ℕ → R → R  -- by the number of elements, and the answer for one
  pub of_class : ClassKey → ClassFlags → List R → List R → R  -- by the answers for its bases and its members

pub data Part : Type 0 where
  OfType : TypeId → Part
  OfClass : ClassId → Part

-- the answers for each item, where all are known
abbrev pub both : {R : Type 0} → Option R → Option (List R) → Option (List R)
both (Some r) (Some rs) = Some (r ∷ rs)
both _ _ = None

abbrev pub each : {A R : Type 0} → (A → Option R) → List A → Option (List R)
each f [] = Some []
each f (x ∷ xs) = both (f x) (each f xs)

abbrev pub joined : {R : Type 0} → (List R → List R → R) → Option (List R) → Option (List R) → Option R
joined f (Some bs) (Some fs) = Some (f bs fs)
joined f _ _ = None

-- the answer for a class with this body, a type of this kind, and a part, by the answers for the parts below
abbrev pub body_answer : {R : Type 0} → Question R → (Part → Option R) → ClassKey → ClassBody → Option R
body_answer q below k b = joined (q.of_class k b.flags) (each (λ c. below (OfClass c)) b.bases) (each (λ (f : Field). below (OfType f.ty)) b.fields)

abbrev pub class_answer : {R : Type 0} → Question R → (Part → Option R) → Option ClassDecl → Option R
class_answer q below decl = option_and_then (λ (d : ClassDecl). option_and_then (body_answer q below d.key) d.body) decl

abbrev pub address_answer : {R : Type 0} → Question R → Option R → TypeKind → Option R
address_answer q deeper (kind.Class c) = Some (q.of_scalar 8)
address_answer q deeper _ = given q.of_address deeper

abbrev pub kind_answer : {R : Type 0} → Question R → Tables → (Part → Option R) → TypeKind → Option R
kind_answer q t below kind.Void = q.of_void
kind_answer q t below kind.Nullptr = Some (q.of_scalar 8)
kind_answer q t below (kind.Int ty) = Some (q.of_scalar (int_size ty))
kind_answer q t below (kind.Enum e) = given q.of_enum (option_map int_size (under_at t e))
kind_answer q t below (kind.Pointer to) = option_and_then (λ (r : TypeRow). address_answer q (below (OfType to)) r.kind) (slice_get t.rows to.0)
kind_answer q t below (kind.Reference to) = option_and_then (λ (r : TypeRow). address_answer q (below (OfType to)) r.kind) (slice_get t.rows to.0)
kind_answer q t below (kind.Array of n) = option_map (q.of_array n) (below (OfType of))
kind_answer q t below (kind.Class c) = class_answer q below (slice_get t.classes c.0)

abbrev pub part_answer : {R : Type 0} → Question R → Tables → (Part → Option R) → Part → Option R
part_answer q t below (OfType id) = option_and_then (λ (r : TypeRow). kind_answer q t below r.kind) (slice_get t.rows id.0)
part_answer q t below (OfClass c) = class_answer q below (slice_get t.classes c.0)

-- the answer that one finds by looking so many levels deep
unfoldable pub looked : {R : Type 0} → Question R → Tables → ℕ → Part → Option R
looked q t zero p = None
looked q t (suc n) p = part_answer q t (looked q t n) p

unfoldable pub most_levels : ℕ
most_levels = 512

unfoldable pub asked : {R : Type 0} → Question R → Tables → Part → Option R
asked q t p = looked q t most_levels p

abbrev pub most : List ℕ → ℕ
most [] = 0
most (x ∷ xs) = max x (most xs)

-- Depth: 1 for void, a scalar, and a pointer or reference to a class; another pointer or reference and an array are
-- one deeper than their part, a class than its deepest base or member.
abbrev pub depth_of : Question ℕ
depth_of = record {
  of_void = Some 1;
  of_scalar = λ _. 1;
  of_enum = Always 1;
  of_address = By (λ d. d + 1);
  of_array = λ _ d. d + 1;
  of_class = λ _ _ bs fs. most (bs ++ fs) + 1;
}

abbrev pub by_key : {A : Type 0} → ClassKey → A → A → A
by_key key.Union a b = a
by_key _ a b = b

-- Cells: 1 for a scalar, pointer or reference; an array has those of its elements, a class 1 and those of its bases and
-- members, a union 1 and those of its largest member.
abbrev pub cells_of : Question ℕ
cells_of = record {
  of_void = Some 0;
  of_scalar = λ _. 1;
  of_enum = Always 1;
  of_address = Always 1;
  of_array = λ n c. n * c;
  of_class = λ k _ bs fs. by_key k (most fs) (sum bs + sum fs) + 1;
}

-- Nodes: 1 for a scalar, pointer, reference and void; an array has one more than its element, and a class or union one
-- more than its bases and members have together.
abbrev pub nodes_of : Question ℕ
nodes_of = record {
  of_void = Some 1;
  of_scalar = λ _. 1;
  of_enum = Always 1;
  of_address = Always 1;
  of_array = λ _ c. c + 1;
  of_class = λ _ _ bs fs. sum bs + sum fs + 1;
}

abbrev pub all_true : List Bool → Bool
all_true [] = true
all_true (b ∷ bs) = b && all_true bs

abbrev pub any_true : List Bool → Bool
any_true [] = false
any_true (b ∷ bs) = b || any_true bs

-- Literal types ([basic.types.general]): a class has a constexpr destructor, is an aggregate or has a constexpr
-- constructor other than copy, and its bases and members are literal; of a union's members one suffices.
abbrev pub literal_of : Question Bool
literal_of = record {
  of_void = Some true;
  of_scalar = λ _. true;
  of_enum = Always true;
  of_address = Always true;
  of_array = λ _ l. l;
  of_class = λ k fl bs fs. fl.constexpr_dtor && (fl.aggregate || fl.constexpr_ctor) && all_true bs && by_key k (any_true fs) (all_true fs);
}

-- the least multiple of `to` that is at least n
abbrev pub rounded : ℕ → ℕ → ℕ
rounded n to = (n + (to - 1)) / to * to

-- where the last of these members ends, each laid at the first place behind the one before it that its alignment allows
abbrev pub end_of : ℕ → List Extent → ℕ
end_of at [] = at
end_of at (m ∷ ms) = end_of (rounded at m.align + m.size) ms

abbrev pub widest : List Extent → ℕ
widest ms = most (map (λ (m : Extent). m.size) ms)

abbrev pub strictest : List Extent → ℕ
strictest ms = max 1 (most (map (λ (m : Extent). m.align) ms))

-- a class is padded to its alignment, and an empty one has size 1
abbrev pub class_extent : ClassKey → List Extent → Extent
class_extent k ms = record { size = max 1 (rounded (by_key k (widest ms) (end_of 0 ms)) (strictest ms)); align = strictest ms }

-- with bases or virtual functions a class has no extent here, and what holds such a class has none
abbrev pub plain_extent : ClassKey → ClassFlags → List (Option Extent) → List (Option Extent) → Option Extent
plain_extent k fl [] fs = if fl.has_virtual then None else option_map (class_extent k) (each (λ e. e) fs)
plain_extent k fl (b ∷ bs) fs = None

abbrev pub bytes : ℕ → Option Extent
bytes n = Some (record { size = n; align = n })

-- Size and alignment, where the type is complete ([expr.sizeof], [expr.alignof]): None in the place of the extent is
-- where the profile has none.
abbrev pub extent_of : Question (Option Extent)
extent_of = record {
  of_void = None;
  of_scalar = bytes;
  of_enum = By bytes;
  of_address = Always (bytes 8);
  of_array = λ n e. option_map (λ (m : Extent). record { size = n * m.size; align = m.align }) e;
  of_class = plain_extent;
}

-- a type is complete where it has an extent or is known to have none
abbrev pub is_complete : Tables → TypeId → Bool
is_complete t id = is_some (asked extent_of t (OfType id))

abbrev pub extent_answer : (Extent → ℕ) → Option (Option Extent) → Result ℕ Rule
extent_answer f None = Err rule.Incomplete
extent_answer f (Some None) = Err rule.SizeProfile
extent_answer f (Some (Some e)) = Ok (f e)

abbrev pub size_answer : Tables → TypeId → Result ℕ Rule
size_answer t id = extent_answer (λ e. e.size) (asked extent_of t (OfType id))

abbrev pub align_answer : Tables → TypeId → Result ℕ Rule
align_answer t id = extent_answer (λ e. e.align) (asked extent_of t (OfType id))

-- the cells of a complete type: a type has them only where each part has
abbrev pub counted : Option ℕ → Result ℕ Rule
counted None = Err rule.Incomplete
counted (Some n) = Ok n

abbrev pub cells_answer : Tables → TypeId → Result ℕ Rule
cells_answer t id = if is_complete t id then counted (asked cells_of t (OfType id)) else Err rule.Incomplete

abbrev pub literal_answer : Tables → TypeId → Bool
literal_answer t id = unwrap_or (asked literal_of t (OfType id)) false
