-- Worked cases: objects and cells, and the limits on them ([implimits], [expr.const]).
use Rattle.std.proofs.Common.{◌≡◌, ℕ, length, List, [], ◌∷◌, Result, Ok, Err, refl}
use Rattle.cx_base.specs.declared.rule.Rule.{Rule}
use Rattle.cx_base.specs.declared.rule.Rule.TheVariants as rule
use Rattle.cx_base.specs.declared.limits.Limits.{Limits}
use Rattle.cx_type_defs.specs.Questions.{asked, looked, most_levels}
use Rattle.cx_state.specs.declared.kind.Birth.TheVariants as birth
use Rattle.cx_state.specs.declared.kind.Scalar.TheVariants as scalar
use Rattle.cx_state.specs.Objects.{Leaf, Row, End, More, Objects}
use Rattle.cx_state.specs.Steps.{load, cut, settle}
use Rattle.cx_state.specs.Counts.{next_place, live_cells}
use Rattle.cx_state.proofs.CaseTables.{Move, sample, ample, after, makes, ask, of_type, many_of, born, literal, place, in_object, elem, whole_number, int_type, outer_union, holder, most_derived, fixed, two_rows, inits, activates, releases, trees_of, loads, make_all}

abbrev limited : ℕ → ℕ → Limits
limited objects cells = record { depth = 512; exprs = 1000; turns = 1000; cells = cells; objects = objects }

abbrev cells_after : List Move → Result ℕ Rule
cells_after ms = ask (λ os. Ok (live_cells sample os)) (after ms)

abbrev number_of : Objects → Result ℕ Rule
number_of os = Ok (length os)

-- a scalar has one cell
int_cells : cells_after (makes (of_type int_type) ∷ []) ≡ Ok 1
unfolding asked looked most_levels
int_cells = refl

-- a union has one more than its largest member
union_cells : cells_after (makes (of_type outer_union) ∷ []) ≡ Ok 3
unfolding asked looked most_levels
union_cells = refl

-- a class one more than its members
holder_cells : cells_after (makes (of_type holder) ∷ []) ≡ Ok 4
unfolding asked looked most_levels
holder_cells = refl

-- and than its bases
derived_cells : cells_after (makes (of_type most_derived) ∷ []) ≡ Ok 6
unfolding asked looked most_levels
derived_cells = refl

-- an array has those of its elements
array_cells : cells_after (makes (of_type two_rows) ∷ []) ≡ Ok 6
unfolding asked looked most_levels
array_cells = refl

-- a new-expression's array too
new_cells : cells_after (makes (many_of fixed 4) ∷ []) ≡ Ok 12
unfolding asked looked most_levels
new_cells = refl

-- one of no elements has none
none_cells : cells_after (makes (many_of fixed 0) ∷ []) ≡ Ok 0
unfolding asked looked most_levels
none_cells = refl

-- objects are added up
two_objects_cells : cells_after (makes (of_type int_type) ∷ makes (of_type holder) ∷ []) ≡ Ok 5
unfolding asked looked most_levels
two_objects_cells = refl

-- a released one has none
released_cells : cells_after (makes (of_type int_type) ∷ makes (of_type holder) ∷ releases 1 ∷ []) ≡ Ok 1
unfolding asked looked most_levels
released_cells = refl

-- a string literal isn't counted
literal_cells : cells_after (makes literal ∷ []) ≡ Ok 0
unfolding asked looked most_levels
literal_cells = refl

-- nor is what is opaque
opaque_cells : cells_after (makes (born birth.Opaque holder) ∷ []) ≡ Ok 0
unfolding asked looked most_levels
opaque_cells = refl

-- what is usable is
usable_cells : cells_after (makes (born birth.Usable holder) ∷ []) ≡ Ok 4
unfolding asked looked most_levels
usable_cells = refl

-- and stays so when it is settled
settled_cells : cells_after (makes (of_type holder) ∷ (λ os. Ok (settle os (place []) birth.Opaque)) ∷ []) ≡ Ok 4
unfolding asked looked most_levels
settled_cells = refl

-- a member's activation changes nothing
active_cells : cells_after (makes (of_type outer_union) ∷ activates [] 1 ∷ []) ≡ Ok 3
unfolding asked looked most_levels
active_cells = refl

-- limits

-- as many objects as the limit says
objects_within : ask number_of (make_all (limited 2 9) [] (of_type int_type ∷ of_type int_type ∷ [])) ≡ Ok 2
unfolding asked looked most_levels
objects_within = refl

-- and not one more
objects_beyond : make_all (limited 2 9) [] (of_type int_type ∷ of_type int_type ∷ of_type int_type ∷ []) ≡ Err rule.LimitObjects
unfolding asked looked most_levels
objects_beyond = refl

-- as many cells as the limit says: `int a[4]` beside an int, and five
cells_within : ask number_of (make_all (limited 9 5) [] (of_type int_type ∷ many_of int_type 4 ∷ [])) ≡ Ok 2
unfolding asked looked most_levels
cells_within = refl

-- and not one more
cells_beyond : make_all (limited 9 4) [] (of_type int_type ∷ many_of int_type 4 ∷ []) ≡ Err rule.LimitCells
unfolding asked looked most_levels
cells_beyond = refl

-- the objects are asked first
objects_first : make_all (limited 1 1) [] (of_type int_type ∷ of_type holder ∷ []) ≡ Err rule.LimitObjects
unfolding asked looked most_levels
objects_first = refl

-- a string literal passes no limit on cells
literal_beyond : ask number_of (make_all (limited 9 1) [] (of_type int_type ∷ literal ∷ [])) ≡ Ok 2
unfolding asked looked most_levels
literal_beyond = refl

-- but is an object
literal_objects : make_all (limited 1 9) [] (of_type int_type ∷ literal ∷ []) ≡ Err rule.LimitObjects
unfolding asked looked most_levels
literal_objects = refl

-- a released object gives its cells back
cells_again : ask number_of (ask (λ os. make_all (limited 9 4) os (of_type holder ∷ [])) (after (makes (of_type holder) ∷ releases 0 ∷ []))) ≡ Ok 2
unfolding asked looked most_levels
cells_again = refl

-- and not its number
number_not_again : ask (λ os. make_all (limited 1 9) os (of_type holder ∷ [])) (after (makes (of_type holder) ∷ releases 0 ∷ [])) ≡ Err rule.LimitObjects
unfolding asked looked most_levels
number_not_again = refl

-- new objects, and cutting off the latest

-- an array of two
new_two : ask trees_of (after (makes (many_of int_type 2) ∷ [])) ≡ Ok (Row (More (Leaf scalar.Indeterminate) (More (Leaf scalar.Indeterminate) End)) ∷ [])
unfolding asked looked most_levels
new_two = refl

-- `new int[2]{1, 2}` holds both
new_filled : ask (loads (place (elem 1 ∷ []))) (after (makes (many_of int_type 2) ∷ inits (elem 0 ∷ []) 1 ∷ inits (elem 1 ∷ []) 2 ∷ [])) ≡ Ok (whole_number 2)
unfolding asked looked most_levels
new_filled = refl

-- an array of one is no single object
new_one : ask trees_of (after (makes (many_of int_type 1) ∷ [])) ≡ Ok (Row (More (Leaf scalar.Indeterminate) End) ∷ [])
unfolding asked looked most_levels
new_one = refl

-- a released number is not drawn again
drawn_once : ask (λ os. Ok (next_place os)) (after (makes (of_type int_type) ∷ releases 0 ∷ [])) ≡ Ok (in_object 1 [])
unfolding asked looked most_levels
drawn_once = refl

-- what is cut away is drawn again
drawn_again : ask (λ os. Ok (next_place (cut os 1))) (after (makes (of_type int_type) ∷ makes (of_type holder) ∷ makes (of_type fixed) ∷ [])) ≡ Ok (in_object 1 [])
unfolding asked looked most_levels
drawn_again = refl

-- and what stays is as it was
cut_keeps : ask (λ os. load sample (cut os 1) (place [])) (after (makes (of_type int_type) ∷ inits [] 6 ∷ makes (of_type holder) ∷ [])) ≡ Ok (whole_number 6)
unfolding asked looked most_levels
cut_keeps = refl

-- a new object is made in place of it
cut_and_made : ask (λ os. ask trees_of (make_all ample (cut os 1) (of_type int_type ∷ []))) (after (makes (of_type int_type) ∷ inits [] 6 ∷ makes (of_type holder) ∷ [])) ≡ Ok (Leaf (whole_number 6) ∷ Leaf scalar.Indeterminate ∷ [])
unfolding asked looked most_levels
cut_and_made = refl
