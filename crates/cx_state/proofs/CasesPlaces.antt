-- Worked cases: which places there are, and moving among them ([expr.add], [basic.compound]).
use Rattle.std.proofs.Common.{◌≡◌, true, false, [], ◌∷◌, Ok, Err, refl, pos, negsuc}
use Rattle.cx_base.specs.declared.rule.Rule.TheVariants as rule
use Rattle.cx_type_defs.specs.Questions.{asked, looked, most_levels}
use Rattle.cx_state.specs.Places.{is_place}
use Rattle.cx_state.specs.Steps.{store}
use Rattle.cx_state.proofs.CaseTables.{sample, after, makes, ask, of_type, many_of, place, past, in_object, base, field, elem, whole_number, int_type, inner_union, most_derived, fixed, three_ints, two_rows, inits, loads, adds, measures, elems}

-- int[3]

-- an element
last_element : ask (elems (place []) 2) (after (makes (of_type three_ints) ∷ [])) ≡ Ok (place (elem 2 ∷ []))
unfolding asked looked most_levels
last_element = refl

-- the length gives the place past the end
past_array : ask (elems (place []) 3) (after (makes (of_type three_ints) ∷ [])) ≡ Ok (past (elem 3 ∷ []))
unfolding asked looked most_levels
past_array = refl

-- the same by adding to the first element
past_by_adding : ask (adds (place (elem 0 ∷ [])) (pos 3)) (after (makes (of_type three_ints) ∷ [])) ≡ Ok (past (elem 3 ∷ []))
unfolding asked looked most_levels
past_by_adding = refl

-- no further
beyond_past : ask (adds (place (elem 0 ∷ [])) (pos 4)) (after (makes (of_type three_ints) ∷ [])) ≡ Err rule.PointerRange
unfolding asked looked most_levels
beyond_past = refl

-- nor from the place past the end
past_and_one : ask (adds (past (elem 3 ∷ [])) (pos 1)) (after (makes (of_type three_ints) ∷ [])) ≡ Err rule.PointerRange
unfolding asked looked most_levels
past_and_one = refl

-- back to the last element
back_from_past : ask (adds (past (elem 3 ∷ [])) (negsuc 0)) (after (makes (of_type three_ints) ∷ [])) ≡ Ok (place (elem 2 ∷ []))
unfolding asked looked most_levels
back_from_past = refl

-- nothing is before the first
before_first : ask (adds (place (elem 0 ∷ [])) (negsuc 0)) (after (makes (of_type three_ints) ∷ [])) ≡ Err rule.PointerRange
unfolding asked looked most_levels
before_first = refl

-- nothing is read past the end
load_past : ask (loads (past (elem 3 ∷ []))) (after (makes (of_type three_ints) ∷ inits (elem 2 ∷ []) 1 ∷ [])) ≡ Err rule.PastEnd
unfolding asked looked most_levels
load_past = refl

-- nor has it elements
elem_of_past : ask (elems (past (elem 3 ∷ [])) 0) (after (makes (of_type three_ints) ∷ [])) ≡ Err rule.PastEnd
unfolding asked looked most_levels
elem_of_past = refl

-- one int counts as an array of one

-- past it
past_single : ask (adds (place []) (pos 1)) (after (makes (of_type int_type) ∷ [])) ≡ Ok (past [])
unfolding asked looked most_levels
past_single = refl

-- no further
beyond_single : ask (adds (place []) (pos 2)) (after (makes (of_type int_type) ∷ [])) ≡ Err rule.PointerRange
unfolding asked looked most_levels
beyond_single = refl

-- back to it
back_to_single : ask (adds (past []) (negsuc 0)) (after (makes (of_type int_type) ∷ [])) ≡ Ok (place [])
unfolding asked looked most_levels
back_to_single = refl

-- nothing is before it
before_single : ask (adds (place []) (negsuc 0)) (after (makes (of_type int_type) ∷ [])) ≡ Err rule.PointerRange
unfolding asked looked most_levels
before_single = refl

-- nothing is read past it
load_past_single : ask (loads (past [])) (after (makes (of_type int_type) ∷ inits [] 1 ∷ [])) ≡ Err rule.PastEnd
unfolding asked looked most_levels
load_past_single = refl

-- nor written
store_past_single : ask (λ os. store sample os (past []) (whole_number 2)) (after (makes (of_type int_type) ∷ inits [] 1 ∷ [])) ≡ Err rule.PastEnd
unfolding asked looked most_levels
store_past_single = refl

-- a member counts so too
past_member : ask (adds (place (field 0 ∷ [])) (pos 1)) (after (makes (of_type fixed) ∷ [])) ≡ Ok (past (field 0 ∷ []))
unfolding asked looked most_levels
past_member = refl

-- and a member isn't in an array with the next
beyond_member : ask (adds (place (field 0 ∷ [])) (pos 2)) (after (makes (of_type fixed) ∷ [])) ≡ Err rule.PointerRange
unfolding asked looked most_levels
beyond_member = refl

-- int[2][3]

-- the length of an inner array
past_inner : ask (elems (place (elem 0 ∷ [])) 3) (after (makes (of_type two_rows) ∷ [])) ≡ Ok (past (elem 0 ∷ elem 3 ∷ []))
unfolding asked looked most_levels
past_inner = refl

-- the place past it is not the first of the next
inner_and_one : ask (adds (past (elem 0 ∷ elem 3 ∷ [])) (pos 1)) (after (makes (of_type two_rows) ∷ [])) ≡ Err rule.PointerRange
unfolding asked looked most_levels
inner_and_one = refl

-- back into it
back_to_inner : ask (adds (past (elem 0 ∷ elem 3 ∷ [])) (negsuc 1)) (after (makes (of_type two_rows) ∷ [])) ≡ Ok (place (elem 0 ∷ elem 1 ∷ []))
unfolding asked looked most_levels
back_to_inner = refl

-- nothing is read there
load_past_inner : ask (loads (past (elem 0 ∷ elem 3 ∷ []))) (after (makes (of_type two_rows) ∷ inits (elem 1 ∷ elem 0 ∷ []) 1 ∷ [])) ≡ Err rule.PastEnd
unfolding asked looked most_levels
load_past_inner = refl

-- from one inner array to the next
next_inner : ask (adds (place (elem 0 ∷ [])) (pos 1)) (after (makes (of_type two_rows) ∷ [])) ≡ Ok (place (elem 1 ∷ []))
unfolding asked looked most_levels
next_inner = refl

-- and past the last
past_outer : ask (adds (place (elem 0 ∷ [])) (pos 2)) (after (makes (of_type two_rows) ∷ [])) ≡ Ok (past (elem 2 ∷ []))
unfolding asked looked most_levels
past_outer = refl

-- an element of what is past the end isn't there
elem_past_outer : ask (elems (past (elem 2 ∷ [])) 0) (after (makes (of_type two_rows) ∷ [])) ≡ Err rule.PastEnd
unfolding asked looked most_levels
elem_past_outer = refl

-- which places there are

-- the array itself, and past it
place_array : ask (λ os. Ok (is_place sample os (past []))) (after (makes (of_type three_ints) ∷ [])) ≡ Ok true
unfolding asked looked most_levels
place_array = refl

-- past its elements
place_past_array : ask (λ os. Ok (is_place sample os (past (elem 3 ∷ [])))) (after (makes (of_type three_ints) ∷ [])) ≡ Ok true
unfolding asked looked most_levels
place_past_array = refl

-- the length without the mark
no_element_there : ask (λ os. Ok (is_place sample os (place (elem 3 ∷ [])))) (after (makes (of_type three_ints) ∷ [])) ≡ Ok false
unfolding asked looked most_levels
no_element_there = refl

-- an element with the mark
no_mark_there : ask (λ os. Ok (is_place sample os (past (elem 2 ∷ [])))) (after (makes (of_type three_ints) ∷ [])) ≡ Ok false
unfolding asked looked most_levels
no_mark_there = refl

-- past a member
place_past_member : ask (λ os. Ok (is_place sample os (past (field 1 ∷ [])))) (after (makes (of_type fixed) ∷ [])) ≡ Ok true
unfolding asked looked most_levels
place_past_member = refl

-- a member that the class hasn't
no_member_there : ask (λ os. Ok (is_place sample os (place (field 2 ∷ [])))) (after (makes (of_type fixed) ∷ [])) ≡ Ok false
unfolding asked looked most_levels
no_member_there = refl

-- a member of a union, though it isn't active
place_of_inactive : ask (λ os. Ok (is_place sample os (place (field 1 ∷ [])))) (after (makes (of_type inner_union) ∷ [])) ≡ Ok true
unfolding asked looked most_levels
place_of_inactive = refl

-- a base of a base
place_of_base : ask (λ os. Ok (is_place sample os (place (base 0 ∷ base 0 ∷ field 0 ∷ [])))) (after (makes (of_type most_derived) ∷ [])) ≡ Ok true
unfolding asked looked most_levels
place_of_base = refl

-- the second base of a class with one
no_base_there : ask (λ os. Ok (is_place sample os (place (base 1 ∷ [])))) (after (makes (of_type most_derived) ∷ [])) ≡ Ok false
unfolding asked looked most_levels
no_base_there = refl

-- past the elements of an array of none
place_in_none : ask (λ os. Ok (is_place sample os (past (elem 0 ∷ [])))) (after (makes (many_of int_type 0) ∷ [])) ≡ Ok true
unfolding asked looked most_levels
place_in_none = refl

-- which has no first
no_first : ask (λ os. Ok (is_place sample os (place (elem 0 ∷ [])))) (after (makes (many_of int_type 0) ∷ [])) ≡ Ok false
unfolding asked looked most_levels
no_first = refl

-- in an object that isn't there
no_object : ask (λ os. Ok (is_place sample os (in_object 1 []))) (after (makes (of_type int_type) ∷ [])) ≡ Ok false
unfolding asked looked most_levels
no_object = refl

-- differences

-- in one array
distance_forth : ask (measures (place (elem 2 ∷ [])) (place (elem 0 ∷ []))) (after (makes (of_type three_ints) ∷ [])) ≡ Ok (pos 2)
unfolding asked looked most_levels
distance_forth = refl

-- the other way
distance_back : ask (measures (place (elem 0 ∷ [])) (past (elem 3 ∷ []))) (after (makes (of_type three_ints) ∷ [])) ≡ Ok (negsuc 2)
unfolding asked looked most_levels
distance_back = refl

-- from one object to past it
distance_single : ask (measures (past []) (place [])) (after (makes (of_type int_type) ∷ [])) ≡ Ok (pos 1)
unfolding asked looked most_levels
distance_single = refl

-- between two inner arrays
distance_across : ask (measures (place (elem 1 ∷ elem 0 ∷ [])) (place (elem 0 ∷ elem 0 ∷ []))) (after (makes (of_type two_rows) ∷ [])) ≡ Err rule.PointerDistance
unfolding asked looked most_levels
distance_across = refl

-- from past one of them to the first of the next
distance_past_inner : ask (measures (past (elem 0 ∷ elem 3 ∷ [])) (place (elem 1 ∷ elem 0 ∷ []))) (after (makes (of_type two_rows) ∷ [])) ≡ Err rule.PointerDistance
unfolding asked looked most_levels
distance_past_inner = refl

-- between two members
distance_members : ask (measures (place (field 0 ∷ [])) (place (field 1 ∷ []))) (after (makes (of_type fixed) ∷ [])) ≡ Err rule.PointerDistance
unfolding asked looked most_levels
distance_members = refl

-- between an array and its first element
distance_to_first : ask (measures (place []) (place (elem 0 ∷ []))) (after (makes (of_type three_ints) ∷ [])) ≡ Err rule.PointerDistance
unfolding asked looked most_levels
distance_to_first = refl

-- between two objects
distance_objects : ask (measures (place []) (in_object 1 [])) (after (makes (of_type int_type) ∷ makes (of_type int_type) ∷ [])) ≡ Err rule.PointerDistance
unfolding asked looked most_levels
distance_objects = refl
