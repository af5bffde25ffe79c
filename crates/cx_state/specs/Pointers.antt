-- Moving and comparing pointers ([expr.add], [expr.rel], [expr.eq]). What the standard leaves unspecified is a rule here,
-- and so is what differs between compilers; which cases these are is this project's choice.
use Rattle.std.specs.Prelude.{ℕ, ◌==◌, nat_lt, nat_le, Bool, true, false, ◌&&◌, ◌||◌, not, List, [], ◌∷◌, ◌++◌, Option, None, Some, Result, Ok, Err, unwrap_or, slice_get, option_and_then, option_map, if◌then◌else◌, ℤ, pos, negsuc, ◌+ℤ◌, ◌-ℤ◌}
use Rattle.cx_base.specs.declared.rule.Rule.{Rule}
use Rattle.cx_base.specs.declared.rule.Rule.TheVariants as rule
use Rattle.cx_type_defs.specs.declared.ids.Step.{Step}
use Rattle.cx_type_defs.specs.declared.ids.Step.TheVariants as step
use Rattle.cx_type_defs.specs.declared.ids.TypeId.{TypeId}
use Rattle.cx_type_defs.specs.declared.kind.TypeRow.{TypeRow}
use Rattle.cx_type_defs.specs.declared.kind.TypeKind.{TypeKind}
use Rattle.cx_type_defs.specs.declared.kind.TypeKind.TheVariants as kind
use Rattle.cx_type_defs.specs.declared.decl.ClassDecl.{ClassDecl}
use Rattle.cx_type_defs.specs.declared.decl.ClassKey.{ClassKey}
use Rattle.cx_type_defs.specs.declared.decl.ClassKey.TheVariants as key
use Rattle.cx_type_defs.specs.Tables.{Tables}
use Rattle.cx_state.specs.declared.kind.Kind.{Kind}
use Rattle.cx_state.specs.declared.kind.Kind.TheVariants as made
use Rattle.cx_state.specs.Objects.{Path, Object, Objects, same_step, same_steps, same_bool, same_path}
use Rattle.cx_state.specs.Places.{spot, elements, row_part, row_below, root_row}

abbrev pub is_dangling : Objects → Path → Bool
is_dangling os p = unwrap_or (option_map (λ (o : Object). o.released) (slice_get os p.object)) false

abbrev pub first_row : Tables → Objects → Path → Option TypeRow
first_row t os p = option_and_then (root_row t) (slice_get os p.object)

-- how many elements the array has that a place is in
abbrev pub count_at : Tables → Objects → Path → ℕ
count_at t os p = if (spot p).many then unwrap_or (option_map (λ (e : ℕ × TypeId). e.0) (option_and_then (λ (r : TypeRow). elements r.kind) (option_and_then (λ r. row_below t r (spot p).array) (first_row t os p)))) 0 else 1

-- the place at an index of that array, of so many elements
abbrev pub at_index : Path → ℕ → ℕ → Path
at_index p count i = record { object = p.object; steps = if (spot p).many then (spot p).array ++ step.Elem i ∷ [] else (spot p).array; past = i == count }

-- the index, where it is from 0 to the count
abbrev pub index_within : ℕ → ℤ → Option ℕ
index_within count (pos i) = if nat_le i count then Some i else None
index_within count (negsuc i) = None

abbrev pub moved : Path → ℕ → ℤ → Result Path Rule
moved p count by = unwrap_or (option_map (λ i. Ok (at_index p count i)) (index_within count (pos (spot p).index +ℤ by))) (Err rule.PointerRange)

abbrev pub add : Tables → Objects → Path → ℤ → Result Path Rule
add t os p by = if is_dangling os p then Err rule.Dangling else moved p (count_at t os p) by

-- both are places of one array
abbrev pub same_array : Path → Path → Bool
same_array p q = (p.object == q.object) && same_bool (spot p).many (spot q).many && same_steps (spot p).array (spot q).array

abbrev pub distance : Objects → Path → Path → Result ℤ Rule
distance os p q =
    if is_dangling os p || is_dangling os q then Err rule.Dangling
    else if same_array p q then Ok (pos (spot p).index -ℤ pos (spot q).index)
    else Err rule.PointerDistance

-- where two lists of steps from one object part: the type there, and the two steps
pub record Parting : Type 0 where
  pub row : TypeRow
  pub left : Step
  pub right : Step

abbrev pub parting : Tables → TypeRow → List Step → List Step → Option Parting
parting t r (s ∷ ss) (u ∷ us) = if same_step s u then option_and_then (λ (q : TypeRow). parting t q ss us) (row_part t r s) else Some (record { row = r; left = s; right = u })
parting t r _ _ = None

abbrev pub parts_at : Tables → Objects → Path → Path → Option Parting
parts_at t os p q = if p.object == q.object then option_and_then (λ r. parting t r p.steps q.steps) (first_row t os p) else None

abbrev pub is_union_key : ClassKey → Bool
is_union_key key.Union = true
is_union_key _ = false

abbrev pub is_union_kind : Tables → TypeKind → Bool
is_union_kind t (kind.Class c) = unwrap_or (option_map (λ (d : ClassDecl). is_union_key d.key) (slice_get t.classes c.0)) false
is_union_kind t _ = false

-- elements of an array by index, members of a class that isn't a union by declaration
abbrev pub step_before : Bool → Step → Step → Option Bool
step_before in_union (step.Elem i) (step.Elem j) = Some (nat_lt i j)
step_before false (step.Field i) (step.Field j) = Some (nat_lt i j)
step_before in_union _ _ = None

abbrev pub part_before : Tables → Parting → Option Bool
part_before t x = step_before (is_union_kind t x.row.kind) x.left x.right

abbrev pub or_unspecified : Option Bool → Result Bool Rule
or_unspecified (Some b) = Ok b
or_unspecified None = Err rule.UnspecifiedCompare

abbrev pub less : Tables → Objects → Path → Path → Result Bool Rule
less t os p q =
    if is_dangling os p || is_dangling os q then Err rule.Dangling
    else if same_array p q then Ok (nat_lt (spot p).index (spot q).index)
    else if p.past || q.past then Err rule.UnspecifiedCompare
    else or_unspecified (option_and_then (part_before t) (parts_at t os p q))

-- one is past an end, and the other isn't a place of that array
abbrev pub apart_from_end : Path → Path → Bool
apart_from_end p q = p.past && not (same_array p q)

abbrev pub is_literal_kind : Kind → Bool
is_literal_kind made.Literal = true
is_literal_kind _ = false

abbrev pub in_literal : Objects → Path → Bool
in_literal os p = unwrap_or (option_map (λ (o : Object). is_literal_kind o.kind) (slice_get os p.object)) false

abbrev pub in_two_literals : Objects → Path → Path → Bool
in_two_literals os p q = not (p.object == q.object) && in_literal os p && in_literal os q

-- one list of steps goes on where the other ends
abbrev pub goes_on : List Step → List Step → Bool
goes_on [] (s ∷ ss) = true
goes_on (s ∷ ss) (u ∷ us) = same_step s u && goes_on ss us
goes_on _ _ = false

-- one is an object within the other
abbrev pub is_within : Path → Path → Bool
is_within p q = (p.object == q.object) && (goes_on p.steps q.steps || goes_on q.steps p.steps)

-- they are in two members of one union
abbrev pub are_members : Step → Step → Bool
are_members (step.Field i) (step.Field j) = true
are_members _ _ = false

abbrev pub in_two_members : Tables → Objects → Path → Path → Bool
in_two_members t os p q = unwrap_or (option_map (λ (x : Parting). is_union_kind t x.row.kind && are_members x.left x.right) (parts_at t os p q)) false

abbrev pub is_unspecified : Tables → Objects → Path → Path → Bool
is_unspecified t os p q = apart_from_end p q || apart_from_end q p || in_two_literals os p q || is_within p q || in_two_members t os p q

abbrev pub equal : Tables → Objects → Path → Path → Result Bool Rule
equal t os p q =
    if same_path p q then Ok true
    else if is_unspecified t os p q then Err rule.UnspecifiedCompare
    else Ok false
