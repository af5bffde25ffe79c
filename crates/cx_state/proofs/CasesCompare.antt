-- Worked cases: comparing places ([expr.eq], [expr.rel]).
use Rattle.std.proofs.Common.{◌≡◌, true, false, [], ◌∷◌, Ok, Err, refl, pos}
use Rattle.cx_base.specs.declared.rule.Rule.TheVariants as rule
use Rattle.cx_type_defs.specs.Questions.{asked, looked, most_levels}
use Rattle.cx_state.specs.Steps.{init}
use Rattle.cx_state.proofs.CaseTables.{sample, after, makes, ask, of_type, literal, place, past, in_object, base, field, elem, whole_number, int_type, inner_union, most_derived, fixed, whole, either, three_ints, two_rows, inits, releases, loads, adds, compares, orders, measures, elems}

-- equality

-- one place
equal_itself : ask (compares (place (elem 1 ∷ [])) (place (elem 1 ∷ []))) (after (makes (of_type three_ints) ∷ [])) ≡ Ok true
unfolding asked looked most_levels
equal_itself = refl

-- two elements
equal_elements : ask (compares (place (elem 1 ∷ [])) (place (elem 2 ∷ []))) (after (makes (of_type three_ints) ∷ [])) ≡ Ok false
unfolding asked looked most_levels
equal_elements = refl

-- an array and its first element
equal_first : ask (compares (place []) (place (elem 0 ∷ []))) (after (makes (of_type three_ints) ∷ [])) ≡ Err rule.UnspecifiedCompare
unfolding asked looked most_levels
equal_first = refl

-- a class and its first member
equal_first_member : ask (compares (place []) (place (field 0 ∷ []))) (after (makes (of_type fixed) ∷ [])) ≡ Err rule.UnspecifiedCompare
unfolding asked looked most_levels
equal_first_member = refl

-- a class and its base
equal_base : ask (compares (place (base 0 ∷ [])) (place [])) (after (makes (of_type most_derived) ∷ [])) ≡ Err rule.UnspecifiedCompare
unfolding asked looked most_levels
equal_base = refl

-- two members
equal_members : ask (compares (place (field 0 ∷ [])) (place (field 1 ∷ []))) (after (makes (of_type fixed) ∷ [])) ≡ Ok false
unfolding asked looked most_levels
equal_members = refl

-- a base and a member
equal_base_member : ask (compares (place (base 0 ∷ [])) (place (field 0 ∷ []))) (after (makes (of_type most_derived) ∷ [])) ≡ Ok false
unfolding asked looked most_levels
equal_base_member = refl

-- two members of a union
equal_union_members : ask (compares (place (field 0 ∷ [])) (place (field 1 ∷ []))) (after (makes (of_type inner_union) ∷ [])) ≡ Err rule.UnspecifiedCompare
unfolding asked looked most_levels
equal_union_members = refl

-- parts of two members of a union
equal_in_union_members : ask (compares (place (field 0 ∷ field 1 ∷ [])) (place (field 1 ∷ []))) (after (makes (of_type either) ∷ [])) ≡ Err rule.UnspecifiedCompare
unfolding asked looked most_levels
equal_in_union_members = refl

-- two places past the end of one array
equal_past : ask (compares (past (elem 3 ∷ [])) (past (elem 3 ∷ []))) (after (makes (of_type three_ints) ∷ [])) ≡ Ok true
unfolding asked looked most_levels
equal_past = refl

-- an element and the place past the end
equal_past_element : ask (compares (place (elem 0 ∷ [])) (past (elem 3 ∷ []))) (after (makes (of_type three_ints) ∷ [])) ≡ Ok false
unfolding asked looked most_levels
equal_past_element = refl

-- an object and the place past it
equal_past_itself : ask (compares (place []) (past [])) (after (makes (of_type int_type) ∷ [])) ≡ Ok false
unfolding asked looked most_levels
equal_past_itself = refl

-- the place past a member and the next member
equal_past_member : ask (compares (past (field 0 ∷ [])) (place (field 1 ∷ []))) (after (makes (of_type fixed) ∷ [])) ≡ Err rule.UnspecifiedCompare
unfolding asked looked most_levels
equal_past_member = refl

-- the place past an inner array's elements and the first of the next
equal_past_inner : ask (compares (past (elem 0 ∷ elem 3 ∷ [])) (place (elem 1 ∷ elem 0 ∷ []))) (after (makes (of_type two_rows) ∷ [])) ≡ Err rule.UnspecifiedCompare
unfolding asked looked most_levels
equal_past_inner = refl

-- the place past an object and the next object
equal_past_object : ask (compares (past []) (in_object 1 [])) (after (makes (of_type int_type) ∷ makes (of_type int_type) ∷ [])) ≡ Err rule.UnspecifiedCompare
unfolding asked looked most_levels
equal_past_object = refl

-- the same the other way round
equal_object_past : ask (compares (in_object 1 []) (past [])) (after (makes (of_type int_type) ∷ makes (of_type int_type) ∷ [])) ≡ Err rule.UnspecifiedCompare
unfolding asked looked most_levels
equal_object_past = refl

-- two objects
equal_objects : ask (compares (place []) (in_object 1 [])) (after (makes (of_type int_type) ∷ makes (of_type int_type) ∷ [])) ≡ Ok false
unfolding asked looked most_levels
equal_objects = refl

-- two string literals
equal_literals : ask (compares (place (elem 0 ∷ [])) (in_object 1 (elem 0 ∷ []))) (after (makes literal ∷ makes literal ∷ [])) ≡ Err rule.UnspecifiedCompare
unfolding asked looked most_levels
equal_literals = refl

-- two elements of one string literal
equal_in_literal : ask (compares (place (elem 0 ∷ [])) (place (elem 1 ∷ []))) (after (makes literal ∷ [])) ≡ Ok false
unfolding asked looked most_levels
equal_in_literal = refl

-- a string literal and another object
equal_literal_object : ask (compares (place (elem 0 ∷ [])) (in_object 1 [])) (after (makes literal ∷ makes (of_type int_type) ∷ [])) ≡ Ok false
unfolding asked looked most_levels
equal_literal_object = refl

-- a dangling place and itself
equal_dangling : ask (compares (place []) (place [])) (after (makes (of_type int_type) ∷ releases 0 ∷ [])) ≡ Ok true
unfolding asked looked most_levels
equal_dangling = refl

-- a dangling place and another
equal_dangling_other : ask (compares (place []) (in_object 1 [])) (after (makes (of_type int_type) ∷ makes (of_type int_type) ∷ releases 0 ∷ [])) ≡ Ok false
unfolding asked looked most_levels
equal_dangling_other = refl

-- order

-- two elements
less_elements : ask (orders (place (elem 1 ∷ [])) (place (elem 2 ∷ []))) (after (makes (of_type three_ints) ∷ [])) ≡ Ok true
unfolding asked looked most_levels
less_elements = refl

-- the other way
less_back : ask (orders (place (elem 2 ∷ [])) (place (elem 1 ∷ []))) (after (makes (of_type three_ints) ∷ [])) ≡ Ok false
unfolding asked looked most_levels
less_back = refl

-- one place
less_itself : ask (orders (place (elem 1 ∷ [])) (place (elem 1 ∷ []))) (after (makes (of_type three_ints) ∷ [])) ≡ Ok false
unfolding asked looked most_levels
less_itself = refl

-- an element and the place past the end
less_past : ask (orders (place (elem 2 ∷ [])) (past (elem 3 ∷ []))) (after (makes (of_type three_ints) ∷ [])) ≡ Ok true
unfolding asked looked most_levels
less_past = refl

-- an object and the place past it
less_past_itself : ask (orders (place []) (past [])) (after (makes (of_type int_type) ∷ [])) ≡ Ok true
unfolding asked looked most_levels
less_past_itself = refl

-- elements of two inner arrays
less_inner : ask (orders (place (elem 0 ∷ elem 2 ∷ [])) (place (elem 1 ∷ elem 0 ∷ []))) (after (makes (of_type two_rows) ∷ [])) ≡ Ok true
unfolding asked looked most_levels
less_inner = refl

-- the place past an inner array's elements and one of the next
less_past_inner : ask (orders (past (elem 0 ∷ elem 3 ∷ [])) (place (elem 1 ∷ elem 0 ∷ []))) (after (makes (of_type two_rows) ∷ [])) ≡ Err rule.UnspecifiedCompare
unfolding asked looked most_levels
less_past_inner = refl

-- two members
less_members : ask (orders (place (field 0 ∷ [])) (place (field 1 ∷ []))) (after (makes (of_type fixed) ∷ [])) ≡ Ok true
unfolding asked looked most_levels
less_members = refl

-- parts of two members
less_in_members : ask (orders (place (field 1 ∷ field 0 ∷ [])) (place (field 0 ∷ field 1 ∷ []))) (after (makes (of_type whole) ∷ [])) ≡ Ok false
unfolding asked looked most_levels
less_in_members = refl

-- two members of a union
less_union_members : ask (orders (place (field 0 ∷ [])) (place (field 1 ∷ []))) (after (makes (of_type inner_union) ∷ [])) ≡ Err rule.UnspecifiedCompare
unfolding asked looked most_levels
less_union_members = refl

-- a base and a member
less_base_member : ask (orders (place (base 0 ∷ [])) (place (field 0 ∷ []))) (after (makes (of_type most_derived) ∷ [])) ≡ Err rule.UnspecifiedCompare
unfolding asked looked most_levels
less_base_member = refl

-- a class and its member
less_within : ask (orders (place []) (place (field 0 ∷ []))) (after (makes (of_type fixed) ∷ [])) ≡ Err rule.UnspecifiedCompare
unfolding asked looked most_levels
less_within = refl

-- the place past a member and the next member
less_past_member : ask (orders (past (field 0 ∷ [])) (place (field 1 ∷ []))) (after (makes (of_type fixed) ∷ [])) ≡ Err rule.UnspecifiedCompare
unfolding asked looked most_levels
less_past_member = refl

-- two objects
less_objects : ask (orders (place []) (in_object 1 [])) (after (makes (of_type int_type) ∷ makes (of_type int_type) ∷ [])) ≡ Err rule.UnspecifiedCompare
unfolding asked looked most_levels
less_objects = refl

-- a dangling place
less_dangling : ask (orders (place []) (in_object 1 [])) (after (makes (of_type int_type) ∷ makes (of_type int_type) ∷ releases 1 ∷ [])) ≡ Err rule.Dangling
unfolding asked looked most_levels
less_dangling = refl

-- after a release

-- nothing is read
load_dangling : ask (loads (place (elem 0 ∷ []))) (after (makes (of_type three_ints) ∷ inits (elem 0 ∷ []) 1 ∷ releases 0 ∷ [])) ≡ Err rule.Dangling
unfolding asked looked most_levels
load_dangling = refl

-- nor past the end: dangling is first
load_dangling_past : ask (loads (past (elem 3 ∷ []))) (after (makes (of_type three_ints) ∷ inits (elem 0 ∷ []) 1 ∷ releases 0 ∷ [])) ≡ Err rule.Dangling
unfolding asked looked most_levels
load_dangling_past = refl

-- the place is still equal to itself
equal_after_release : ask (compares (place (elem 0 ∷ [])) (place (elem 0 ∷ []))) (after (makes (of_type three_ints) ∷ inits (elem 0 ∷ []) 1 ∷ releases 0 ∷ [])) ≡ Ok true
unfolding asked looked most_levels
equal_after_release = refl

-- and not to the next
unequal_after_release : ask (compares (place (elem 0 ∷ [])) (place (elem 1 ∷ []))) (after (makes (of_type three_ints) ∷ inits (elem 0 ∷ []) 1 ∷ releases 0 ∷ [])) ≡ Ok false
unfolding asked looked most_levels
unequal_after_release = refl

-- it doesn't move
add_dangling : ask (adds (place (elem 0 ∷ [])) (pos 0)) (after (makes (of_type three_ints) ∷ inits (elem 0 ∷ []) 1 ∷ releases 0 ∷ [])) ≡ Err rule.Dangling
unfolding asked looked most_levels
add_dangling = refl

-- out of range or not
add_dangling_far : ask (adds (place (elem 0 ∷ [])) (pos 9)) (after (makes (of_type three_ints) ∷ inits (elem 0 ∷ []) 1 ∷ releases 0 ∷ [])) ≡ Err rule.Dangling
unfolding asked looked most_levels
add_dangling_far = refl

-- it has no distance
distance_dangling : ask (measures (place (elem 0 ∷ [])) (place (elem 0 ∷ []))) (after (makes (of_type three_ints) ∷ inits (elem 0 ∷ []) 1 ∷ releases 0 ∷ [])) ≡ Err rule.Dangling
unfolding asked looked most_levels
distance_dangling = refl

-- nor elements
elem_dangling : ask (elems (place []) 0) (after (makes (of_type three_ints) ∷ inits (elem 0 ∷ []) 1 ∷ releases 0 ∷ [])) ≡ Err rule.Dangling
unfolding asked looked most_levels
elem_dangling = refl

-- it is released once
released_twice : after (makes (of_type three_ints) ∷ inits (elem 0 ∷ []) 1 ∷ releases 0 ∷ releases 0 ∷ []) ≡ Err rule.Dangling
unfolding asked looked most_levels
released_twice = refl

-- an object beside it is as it was
beside_released : ask (loads (in_object 1 [])) (after (makes (of_type three_ints) ∷ makes (of_type int_type) ∷ (λ os. init sample os (in_object 1 []) (whole_number 8)) ∷ releases 0 ∷ [])) ≡ Ok (whole_number 8)
unfolding asked looked most_levels
beside_released = refl
