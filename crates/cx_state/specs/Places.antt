-- The types along a path, the arrays that places are in, and which places there are ([basic.compound], [expr.add]).
use Rattle.std.specs.Prelude.{ℕ, ◌==◌, nat_lt, Bool, true, false, ◌||◌, List, [], ◌∷◌, Option, None, Some, is_some, slice_get, option_and_then, option_map, if◌then◌else◌}
use Rattle.cx_type_defs.specs.declared.ids.Step.{Step}
use Rattle.cx_type_defs.specs.declared.ids.Step.TheVariants as step
use Rattle.cx_type_defs.specs.declared.ids.TypeId.{TypeId}
use Rattle.cx_type_defs.specs.declared.ids.ClassId.{ClassId}
use Rattle.cx_type_defs.specs.declared.kind.TypeRow.{TypeRow}
use Rattle.cx_type_defs.specs.declared.kind.TypeKind.{TypeKind}
use Rattle.cx_type_defs.specs.declared.kind.TypeKind.TheVariants as kind
use Rattle.cx_type_defs.specs.declared.decl.Field.{Field}
use Rattle.cx_type_defs.specs.Tables.{Tables, base_of, field_of}
use Rattle.cx_state.specs.Objects.{Path, Object, Objects}

abbrev pub element : Bool → TypeRow → TypeRow
element konst r = record { kind = r.kind; konst = konst || r.konst }

abbrev pub base_row : ClassId → TypeRow
base_row b = record { kind = kind.Class b; konst = false }

-- The type of the part that a step leads to. An element of a const array is const; a member is const by its own type
-- alone, and a base never ([basic.type.qualifier]; how const reaches members is told by the conditions).
abbrev pub kind_part : Tables → Bool → TypeKind → Step → Option TypeRow
kind_part t konst (kind.Array of n) (step.Elem i) = if nat_lt i n then option_map (element konst) (slice_get t.rows of.0) else None
kind_part t konst (kind.Class c) (step.Base i) = option_map base_row (base_of t c i)
kind_part t konst (kind.Class c) (step.Field i) = option_and_then (λ (f : Field). slice_get t.rows f.ty.0) (field_of t c i)
kind_part t konst _ _ = None

abbrev pub row_part : Tables → TypeRow → Step → Option TypeRow
row_part t r s = kind_part t r.konst r.kind s

abbrev pub row_below : Tables → TypeRow → List Step → Option TypeRow
row_below t r [] = Some r
row_below t r (s ∷ ss) = option_and_then (λ (q : TypeRow). row_below t q ss) (row_part t r s)

-- the type of a whole object: its own, or the array that a new-expression makes of it
abbrev pub whole_kind : Option ℕ → TypeId → TypeKind → TypeKind
whole_kind None ty k = k
whole_kind (Some n) ty k = kind.Array ty n

abbrev pub root_row : Tables → Object → Option TypeRow
root_row t o = option_map (λ (r : TypeRow). record { kind = whole_kind o.count o.ty r.kind; konst = o.konst || r.konst }) (slice_get t.rows o.ty.0)

-- The array that a place is in, and its index there. An element of an array is in that array, as is the place past its
-- last one; any other object counts as an array of one element, and the place past it has index 1 ([expr.add]).
pub record Spot : Type 0 where
  pub array : List Step
  pub many : Bool
  pub index : ℕ

abbrev pub under : Step → Spot → Spot
under s x = record { array = s ∷ x.array; many = x.many; index = x.index }

abbrev pub spot_of : Bool → List Step → Spot
spot_of past [] = record { array = []; many = false; index = if past then 1 else 0 }
spot_of past (step.Elem i ∷ []) = record { array = []; many = true; index = i }
spot_of past (s ∷ ss) = under s (spot_of past ss)

abbrev pub spot : Path → Spot
spot p = spot_of p.past p.steps

-- the elements of an array: how many there are, and their type
abbrev pub elements : TypeKind → Option (ℕ × TypeId)
elements (kind.Array of n) = Some (n, of)
elements _ = None

-- the type of an element, and behind the last one that of those before it
abbrev pub index_row : Tables → Bool → ℕ → TypeRow → Option TypeRow
index_row t past i r = option_and_then (λ (e : ℕ × TypeId). if (if past then i == e.0 else nat_lt i e.0) then option_map (element r.konst) (slice_get t.rows e.1.0) else None) (elements r.kind)

abbrev pub spot_row : Tables → Bool → Spot → TypeRow → Option TypeRow
spot_row t past x r = option_and_then (λ (q : TypeRow). if x.many then index_row t past x.index q else Some q) (row_below t r x.array)

-- the type of what a place designates; the place past an end has the type of what ends there
abbrev pub row_of : Tables → Objects → Path → Option TypeRow
row_of t os p = option_and_then (λ (o : Object). option_and_then (spot_row t p.past (spot p)) (root_row t o)) (slice_get os p.object)

-- there is such a place
abbrev pub is_place : Tables → Objects → Path → Bool
is_place t os p = is_some (row_of t os p)
