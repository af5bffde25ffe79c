-- Worked cases: lifetimes, const, and the order of the rules ([basic.life], [dcl.type.cv], [expr.const]).
use Rattle.std.proofs.Common.{◌≡◌, Bool, true, false, List, [], ◌∷◌, None, Ok, Err, refl}
use Rattle.cx_base.specs.declared.rule.Rule.TheVariants as rule
use Rattle.cx_type_defs.specs.Questions.{asked, looked, most_levels}
use Rattle.cx_state.specs.declared.kind.Kind.TheVariants as made
use Rattle.cx_type_defs.specs.declared.ids.Step.{Step}
use Rattle.cx_state.specs.declared.kind.Birth.{Birth}
use Rattle.cx_state.specs.declared.kind.Phase.{Phase}
use Rattle.cx_state.specs.declared.kind.Birth.TheVariants as birth
use Rattle.cx_state.specs.declared.kind.Scalar.{Scalar}
use Rattle.cx_state.specs.declared.kind.Scalar.TheVariants as scalar
use Rattle.cx_state.specs.declared.kind.Phase.TheVariants as phase
use Rattle.cx_state.specs.Objects.{Path, Tree, Leaf, Class, Union, Active, End, More, Object}
use Rattle.cx_state.specs.Steps.{load, store, init, settle, call_on}
use Rattle.cx_state.proofs.CaseTables.{sample, after, makes, moved, ask, of_type, const_of, born, place, past, field, elem, whole_number, int_type, const_int, holder, fixed, whole, two_rows, const_ints, const_union, inits, stores, activates, advances, begins, ends, loads}

-- struct Fixed { const int c; int i; };

-- while the constructor's body runs, a const member without a value may be written
const_member_in_body : ask (loads (place (field 0 ∷ []))) (after (makes (of_type fixed) ∷ advances [] phase.Bases ∷ advances [] phase.Body ∷ stores (field 0 ∷ []) 1 ∷ [])) ≡ Ok (whole_number 1)
unfolding asked looked most_levels
const_member_in_body = refl

-- but not one that has a value
const_member_with_value : after (makes (of_type fixed) ∷ advances [] phase.Bases ∷ advances [] phase.Body ∷ inits (field 0 ∷ []) 1 ∷ stores (field 0 ∷ []) 2 ∷ []) ≡ Err rule.ConstWrite
unfolding asked looked most_levels
const_member_with_value = refl

-- a const member of a living class
const_member_alive : after (makes (of_type fixed) ∷ begins [] ∷ inits (field 0 ∷ []) 1 ∷ stores (field 0 ∷ []) 2 ∷ []) ≡ Err rule.ConstWrite
unfolding asked looked most_levels
const_member_alive = refl

-- the member beside it
other_member_alive : ask (loads (place (field 1 ∷ []))) (after (makes (of_type fixed) ∷ begins [] ∷ inits (field 0 ∷ []) 1 ∷ stores (field 1 ∷ []) 2 ∷ [])) ≡ Ok (whole_number 2)
unfolding asked looked most_levels
other_member_alive = refl

-- an initialization asks nothing about const
initialized_twice : ask (loads (place (field 0 ∷ []))) (after (makes (of_type fixed) ∷ begins [] ∷ inits (field 0 ∷ []) 1 ∷ inits (field 0 ∷ []) 2 ∷ [])) ≡ Ok (whole_number 2)
unfolding asked looked most_levels
initialized_twice = refl

-- struct Whole { const Fixed f; Fixed g; };

-- a const class that isn't alive yet protects nothing
const_class_in_body : ask (loads (place (field 0 ∷ field 1 ∷ []))) (after (makes (of_type whole) ∷ advances [] phase.Bases ∷ advances [] phase.Body ∷ advances (field 0 ∷ []) phase.Bases ∷ advances (field 0 ∷ []) phase.Body ∷ inits (field 0 ∷ field 1 ∷ []) 1 ∷ stores (field 0 ∷ field 1 ∷ []) 2 ∷ [])) ≡ Ok (whole_number 2)
unfolding asked looked most_levels
const_class_in_body = refl

-- once it is alive, all in it is protected, though the class around it is not alive
const_class_alive : after (makes (of_type whole) ∷ advances [] phase.Bases ∷ advances [] phase.Body ∷ begins (field 0 ∷ []) ∷ inits (field 0 ∷ field 1 ∷ []) 1 ∷ stores (field 0 ∷ field 1 ∷ []) 2 ∷ []) ≡ Err rule.ConstWrite
unfolding asked looked most_levels
const_class_alive = refl

-- a class that isn't const protects nothing
plain_class_alive : ask (loads (place (field 1 ∷ field 1 ∷ []))) (after (makes (of_type whole) ∷ advances [] phase.Bases ∷ advances [] phase.Body ∷ begins (field 1 ∷ []) ∷ inits (field 1 ∷ field 1 ∷ []) 1 ∷ stores (field 1 ∷ field 1 ∷ []) 2 ∷ [])) ≡ Ok (whole_number 2)
unfolding asked looked most_levels
plain_class_alive = refl

-- const objects and arrays

-- `const int c = 1;` and then `const_cast<int&>(c) = 2`
const_object : after (makes (const_of int_type) ∷ inits [] 1 ∷ stores [] 2 ∷ []) ≡ Err rule.ConstWrite
unfolding asked looked most_levels
const_object = refl

-- a const scalar is written once by a store, not twice
const_scalar_twice : after (makes (of_type const_int) ∷ stores [] 1 ∷ stores [] 2 ∷ []) ≡ Err rule.ConstWrite
unfolding asked looked most_levels
const_scalar_twice = refl

-- an element of a const array is const
const_array : after (makes (of_type const_ints) ∷ inits (elem 2 ∷ []) 1 ∷ stores (elem 2 ∷ []) 2 ∷ []) ≡ Err rule.ConstWrite
unfolding asked looked most_levels
const_array = refl

-- and so is one of a const object that is an array
const_object_array : after (makes (const_of two_rows) ∷ inits (elem 1 ∷ elem 2 ∷ []) 1 ∷ stores (elem 1 ∷ elem 2 ∷ []) 2 ∷ []) ≡ Err rule.ConstWrite
unfolding asked looked most_levels
const_object_array = refl

-- a member of a const object whose class is alive
const_object_class : after (makes (const_of fixed) ∷ begins [] ∷ inits (field 1 ∷ []) 1 ∷ stores (field 1 ∷ []) 2 ∷ []) ≡ Err rule.ConstWrite
unfolding asked looked most_levels
const_object_class = refl

-- a const union alone protects nothing
const_union_alone : ask (loads (place (field 0 ∷ []))) (after (makes (of_type const_union) ∷ activates [] 0 ∷ stores (field 0 ∷ []) 1 ∷ stores (field 0 ∷ []) 2 ∷ activates [] 1 ∷ activates [] 0 ∷ stores (field 0 ∷ []) 3 ∷ [])) ≡ Ok (whole_number 3)
unfolding asked looked most_levels
const_union_alone = refl

-- within a living class that is const it is protected
const_holder : after (makes (const_of holder) ∷ begins [] ∷ activates (field 0 ∷ []) 0 ∷ stores (field 0 ∷ field 0 ∷ []) 1 ∷ []) ≡ Err rule.ConstWrite
unfolding asked looked most_levels
const_holder = refl

-- phases

-- nothing is read in a class that is unborn
read_unborn : ask (loads (place (field 1 ∷ []))) (after (makes (of_type fixed) ∷ inits (field 1 ∷ []) 1 ∷ [])) ≡ Err rule.OutOfLifetime
unfolding asked looked most_levels
read_unborn = refl

-- while its bases are made it may be read
read_in_bases : ask (loads (place (field 1 ∷ []))) (after (makes (of_type fixed) ∷ inits (field 1 ∷ []) 1 ∷ advances [] phase.Bases ∷ [])) ≡ Ok (whole_number 1)
unfolding asked looked most_levels
read_in_bases = refl

-- and while they are unmade
read_in_ending : ask (loads (place (field 1 ∷ []))) (after (makes (of_type fixed) ∷ inits (field 1 ∷ []) 1 ∷ begins [] ∷ advances [] phase.Ending ∷ advances [] phase.EndingBases ∷ [])) ≡ Ok (whole_number 1)
unfolding asked looked most_levels
read_in_ending = refl

-- once it has ended no more
read_ended : ask (loads (place (field 1 ∷ []))) (after (makes (of_type fixed) ∷ inits (field 1 ∷ []) 1 ∷ begins [] ∷ ends [] ∷ [])) ≡ Err rule.OutOfLifetime
unfolding asked looked most_levels
read_ended = refl

-- a member call asks for a class that is born
call_unborn : ask (λ os. call_on sample os (place [])) (after (makes (of_type fixed) ∷ [])) ≡ Err rule.OutOfLifetime
unfolding asked looked most_levels
call_unborn = refl

-- no phase is left out
phase_left_out : after (makes (of_type fixed) ∷ advances [] phase.Body ∷ []) ≡ Err rule.OutOfLifetime
unfolding asked looked most_levels
phase_left_out = refl

-- and none comes again
phase_again : after (makes (of_type fixed) ∷ begins [] ∷ advances [] phase.Alive ∷ []) ≡ Err rule.OutOfLifetime
unfolding asked looked most_levels
phase_again = refl

-- nor does a life
life_again : after (makes (of_type fixed) ∷ begins [] ∷ ends [] ∷ advances [] phase.Bases ∷ []) ≡ Err rule.OutOfLifetime
unfolding asked looked most_levels
life_again = refl

-- a member's life doesn't begin in an unborn class
member_before_class : after (makes (of_type whole) ∷ advances (field 0 ∷ []) phase.Bases ∷ []) ≡ Err rule.OutOfLifetime
unfolding asked looked most_levels
member_before_class = refl

-- Which of several rules is told: one read of `u.k` in `struct O { U u; }`, where the conditions go away one by one. At first the object
-- is released and opaque, its class unborn, the other member of its union active, and the place is past the end.

abbrev wreck : Bool → Birth → Tree → Object
wreck released birth tree = record { ty = holder; count = None; kind = made.Static; konst = false; birth = birth; released = released; counted = true; tree = tree }

abbrev wrong_member : Tree
wrong_member = Class phase.Unborn End (More (Active 1 Union) End)

abbrev with_member : Phase → Scalar Path → Tree
with_member p v = Class p End (More (Active 0 (Leaf v)) End)

abbrev member : List Step
member = field 0 ∷ field 0 ∷ []

-- all at once
first_dangling : load sample (wreck true birth.Opaque wrong_member ∷ []) (past member) ≡ Err rule.Dangling
unfolding asked looked most_levels
first_dangling = refl

-- not released
then_past_end : load sample (wreck false birth.Opaque wrong_member ∷ []) (past member) ≡ Err rule.PastEnd
unfolding asked looked most_levels
then_past_end = refl

-- not past the end
then_not_usable : load sample (wreck false birth.Opaque wrong_member ∷ []) (place member) ≡ Err rule.NotUsable
unfolding asked looked most_levels
then_not_usable = refl

-- usable
then_inactive : load sample (wreck false birth.Usable wrong_member ∷ []) (place member) ≡ Err rule.InactiveMember
unfolding asked looked most_levels
then_inactive = refl

-- the member is active
then_out_of_lifetime : load sample (wreck false birth.Usable (with_member phase.Unborn scalar.Indeterminate) ∷ []) (place member) ≡ Err rule.OutOfLifetime
unfolding asked looked most_levels
then_out_of_lifetime = refl

-- the class is alive
then_indeterminate : load sample (wreck false birth.Usable (with_member phase.Alive scalar.Indeterminate) ∷ []) (place member) ≡ Err rule.Indeterminate
unfolding asked looked most_levels
then_indeterminate = refl

-- the member has a value
then_value : load sample (wreck false birth.Usable (with_member phase.Alive (whole_number 4)) ∷ []) (place member) ≡ Ok (whole_number 4)
unfolding asked looked most_levels
then_value = refl

-- the same for a write

-- an object from before, and the other member active
write_outside_first : store sample (wreck false birth.Usable wrong_member ∷ []) (place member) (whole_number 1) ≡ Err rule.OutsideWrite
unfolding asked looked most_levels
write_outside_first = refl

-- of this evaluation
then_write_inactive : store sample (wreck false birth.Here wrong_member ∷ []) (place member) (whole_number 1) ≡ Err rule.InactiveMember
unfolding asked looked most_levels
then_write_inactive = refl

-- the member is active
then_write_unborn : store sample (wreck false birth.Here (with_member phase.Unborn (whole_number 4)) ∷ []) (place member) (whole_number 1) ≡ Err rule.OutOfLifetime
unfolding asked looked most_levels
then_write_unborn = refl

-- an initialization of a member that isn't active
init_inactive : init sample (wreck false birth.Here wrong_member ∷ []) (place member) (whole_number 1) ≡ Err rule.InactiveMember
unfolding asked looked most_levels
init_inactive = refl

-- an initialization in an unborn class
init_unborn : ask (λ os. load sample os (place member)) (moved (advances [] phase.Bases ∷ []) (init sample (wreck false birth.Here (with_member phase.Unborn scalar.Indeterminate) ∷ []) (place member) (whole_number 1))) ≡ Ok (whole_number 1)
unfolding asked looked most_levels
init_unborn = refl

-- `int g = 1;` from before the evaluation can't be written
write_usable : after (makes (born birth.Usable int_type) ∷ stores [] 2 ∷ []) ≡ Err rule.OutsideWrite
unfolding asked looked most_levels
write_usable = refl

-- an opaque object can't be read
read_opaque : ask (loads (place [])) (after (makes (born birth.Opaque int_type) ∷ [])) ≡ Err rule.NotUsable
unfolding asked looked most_levels
read_opaque = refl

-- and tells nothing of its active members and lifetimes: a call on a member that isn't active, in an unborn class
call_opaque : call_on sample (wreck false birth.Opaque wrong_member ∷ []) (place member) ≡ Ok tt
unfolding asked looked most_levels
call_opaque = refl

-- the same call on one that may be read
call_usable : call_on sample (wreck false birth.Usable wrong_member ∷ []) (place member) ≡ Err rule.InactiveMember
unfolding asked looked most_levels
call_usable = refl

-- an object that is settled as usable is read and not written
settled_read : ask (λ os. load sample (settle os (place []) birth.Usable) (place [])) (after (makes (of_type int_type) ∷ inits [] 3 ∷ [])) ≡ Ok (whole_number 3)
unfolding asked looked most_levels
settled_read = refl

-- its birth is asked before its const
settled_write : ask (λ os. store sample (settle os (place []) birth.Usable) (place []) (whole_number 4)) (after (makes (const_of int_type) ∷ inits [] 3 ∷ [])) ≡ Err rule.OutsideWrite
unfolding asked looked most_levels
settled_write = refl
