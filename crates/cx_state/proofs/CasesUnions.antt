-- Worked cases: unions and their active members ([class.union], [expr.ass]).
use Rattle.std.proofs.Common.{◌≡◌, false, [], ◌∷◌, None, Some, Ok, Err, refl}
use Rattle.cx_base.specs.declared.rule.Rule.TheVariants as rule
use Rattle.cx_type_defs.specs.Questions.{asked, looked, most_levels}
use Rattle.cx_state.specs.declared.kind.Scalar.TheVariants as scalar
use Rattle.cx_state.specs.declared.kind.Phase.TheVariants as phase
use Rattle.cx_state.specs.Objects.{Leaf, Class, Union, Active, End, More}
use Rattle.cx_state.specs.Steps.{active, activate, deactivate}
use Rattle.cx_state.specs.declared.kind.Birth.TheVariants as birth
use Rattle.cx_state.specs.Counts.{next_place}
use Rattle.cx_state.proofs.CaseTables.{sample, after, makes, ask, of_type, place, in_object, field, whole_number, inner_union, holder, either, inits, born, past, stores, activates, deactivates, begins, ends, releases, trees_of, loads}

-- union V { int w; int x; };

-- after `u.x = 7` the member `w` can't be read, though it has the same type
other_member : ask (loads (place (field 0 ∷ []))) (after (makes (of_type inner_union) ∷ activates [] 0 ∷ inits (field 0 ∷ []) 1 ∷ activates [] 1 ∷ stores (field 1 ∷ []) 7 ∷ [])) ≡ Err rule.InactiveMember
unfolding asked looked most_levels
other_member = refl

-- after a further `u.w = 1` it can
member_again : ask (loads (place (field 0 ∷ []))) (after (makes (of_type inner_union) ∷ activates [] 1 ∷ stores (field 1 ∷ []) 7 ∷ activates [] 0 ∷ stores (field 0 ∷ []) 1 ∷ [])) ≡ Ok (whole_number 1)
unfolding asked looked most_levels
member_again = refl

-- a new union has no active member
no_member : ask (loads (place (field 0 ∷ []))) (after (makes (of_type inner_union) ∷ [])) ≡ Err rule.InactiveMember
unfolding asked looked most_levels
no_member = refl

-- and so none is told
no_member_told : ask (λ os. active sample os (place [])) (after (makes (of_type inner_union) ∷ [])) ≡ Ok None
unfolding asked looked most_levels
no_member_told = refl

-- the active member is told by its index
member_told : ask (λ os. active sample os (place [])) (after (makes (of_type inner_union) ∷ activates [] 1 ∷ [])) ≡ Ok (Some 1)
unfolding asked looked most_levels
member_told = refl

-- the active member activated once more keeps what it holds
same_member_twice : after (makes (of_type inner_union) ∷ activates [] 1 ∷ stores (field 1 ∷ []) 7 ∷ activates [] 1 ∷ []) ≡ after (makes (of_type inner_union) ∷ activates [] 1 ∷ stores (field 1 ∷ []) 7 ∷ [])
unfolding asked looked most_levels
same_member_twice = refl

-- another member activated in between gives it up
member_given_up : ask (loads (place (field 1 ∷ []))) (after (makes (of_type inner_union) ∷ activates [] 1 ∷ stores (field 1 ∷ []) 7 ∷ activates [] 0 ∷ activates [] 1 ∷ [])) ≡ Err rule.Indeterminate
unfolding asked looked most_levels
member_given_up = refl

-- union U { int k; V v; }; struct O { U u; }; `o` is made, then `o.u.k = 1` is done, then `o.u.v.x = 3`

-- a new object: its class is unborn, its union has no active member
new_holder : ask trees_of (after (makes (of_type holder) ∷ [])) ≡ Ok (Class phase.Unborn End (More Union End) ∷ [])
unfolding asked looked most_levels
new_holder = refl

-- `k` is active and 1
first_member : ask trees_of (after (makes (of_type holder) ∷ activates (field 0 ∷ []) 0 ∷ inits (field 0 ∷ field 0 ∷ []) 1 ∷ [])) ≡ Ok (Class phase.Unborn End (More (Active 0 (Leaf (whole_number 1))) End) ∷ [])
unfolding asked looked most_levels
first_member = refl

-- the outer union is first: its member `v` is a new union
outer_first : ask trees_of (after (makes (of_type holder) ∷ activates (field 0 ∷ []) 0 ∷ inits (field 0 ∷ field 0 ∷ []) 1 ∷ activates (field 0 ∷ []) 1 ∷ [])) ≡ Ok (Class phase.Unborn End (More (Active 1 Union) End) ∷ [])
unfolding asked looked most_levels
outer_first = refl

-- then the inner one, and the number is there
then_inner : ask trees_of (after (makes (of_type holder) ∷ activates (field 0 ∷ []) 0 ∷ inits (field 0 ∷ field 0 ∷ []) 1 ∷ activates (field 0 ∷ []) 1 ∷ activates (field 0 ∷ field 1 ∷ []) 1 ∷ inits (field 0 ∷ field 1 ∷ field 1 ∷ []) 3 ∷ [])) ≡ Ok (Class phase.Unborn End (More (Active 1 (Active 1 (Leaf (whole_number 3)))) End) ∷ [])
unfolding asked looked most_levels
then_inner = refl

-- the release ends the class, and the unions have no active member
released_holder : ask trees_of (after (makes (of_type holder) ∷ activates (field 0 ∷ []) 0 ∷ inits (field 0 ∷ field 0 ∷ []) 1 ∷ activates (field 0 ∷ []) 1 ∷ activates (field 0 ∷ field 1 ∷ []) 1 ∷ inits (field 0 ∷ field 1 ∷ field 1 ∷ []) 3 ∷ releases 0 ∷ [])) ≡ Ok (Class phase.Ended End (More Union End) ∷ [])
unfolding asked looked most_levels
released_holder = refl

-- nothing is read there any more
load_released : ask (loads (place (field 0 ∷ field 1 ∷ field 1 ∷ []))) (after (makes (of_type holder) ∷ activates (field 0 ∷ []) 0 ∷ inits (field 0 ∷ field 0 ∷ []) 1 ∷ activates (field 0 ∷ []) 1 ∷ activates (field 0 ∷ field 1 ∷ []) 1 ∷ inits (field 0 ∷ field 1 ∷ field 1 ∷ []) 3 ∷ releases 0 ∷ [])) ≡ Err rule.Dangling
unfolding asked looked most_levels
load_released = refl

-- and the next object has another number
next_number : ask (λ os. Ok (next_place os)) (after (makes (of_type holder) ∷ releases 0 ∷ [])) ≡ Ok (in_object 1 [])
unfolding asked looked most_levels
next_number = refl

-- in a living object the assignment activates both unions and then stores
assignment_through_two : ask (loads (place (field 0 ∷ field 1 ∷ field 1 ∷ []))) (after (makes (of_type holder) ∷ begins [] ∷ activates (field 0 ∷ []) 0 ∷ inits (field 0 ∷ field 0 ∷ []) 1 ∷ activates (field 0 ∷ []) 1 ∷ activates (field 0 ∷ field 1 ∷ []) 1 ∷ stores (field 0 ∷ field 1 ∷ field 1 ∷ []) 3 ∷ [])) ≡ Ok (whole_number 3)
unfolding asked looked most_levels
assignment_through_two = refl

-- the inner union can't be first
inner_first : after (makes (of_type holder) ∷ begins [] ∷ activates (field 0 ∷ []) 0 ∷ inits (field 0 ∷ field 0 ∷ []) 1 ∷ activates (field 0 ∷ field 1 ∷ []) 1 ∷ []) ≡ Err rule.InactiveMember
unfolding asked looked most_levels
inner_first = refl

-- the outer union alone doesn't do
outer_alone : after (makes (of_type holder) ∷ begins [] ∷ activates (field 0 ∷ []) 0 ∷ inits (field 0 ∷ field 0 ∷ []) 1 ∷ activates (field 0 ∷ []) 1 ∷ stores (field 0 ∷ field 1 ∷ field 1 ∷ []) 3 ∷ []) ≡ Err rule.InactiveMember
unfolding asked looked most_levels
outer_alone = refl

-- union Either { Fixed f; int n; }; with struct Fixed { const int c; int i; };

-- an assignment makes the classes of the member alive at once
alive_at_once : ask trees_of (after (makes (of_type either) ∷ activates [] 0 ∷ [])) ≡ Ok (Active 0 (Class phase.Alive End (More (Leaf scalar.Indeterminate) (More (Leaf scalar.Indeterminate) End))) ∷ [])
unfolding asked looked most_levels
alive_at_once = refl

-- an initialization does not: the constructor does
unborn_at_first : ask trees_of (after (makes (of_type either) ∷ (λ os. activate sample os (place []) 0 false) ∷ [])) ≡ Ok (Active 0 (Class phase.Unborn End (More (Leaf scalar.Indeterminate) (More (Leaf scalar.Indeterminate) End))) ∷ [])
unfolding asked looked most_levels
unborn_at_first = refl

-- while the active class lives, activating it changes nothing
living_member : ask (loads (place (field 0 ∷ field 1 ∷ []))) (after (makes (of_type either) ∷ activates [] 0 ∷ stores (field 0 ∷ field 1 ∷ []) 5 ∷ activates [] 0 ∷ [])) ≡ Ok (whole_number 5)
unfolding asked looked most_levels
living_member = refl

-- a class that has ended can't be read
ended_member : ask (loads (place (field 0 ∷ field 1 ∷ []))) (after (makes (of_type either) ∷ activates [] 0 ∷ stores (field 0 ∷ field 1 ∷ []) 5 ∷ ends (field 0 ∷ []) ∷ [])) ≡ Err rule.OutOfLifetime
unfolding asked looked most_levels
ended_member = refl

-- activating it once more gives a new one
new_after_end : ask trees_of (after (makes (of_type either) ∷ activates [] 0 ∷ stores (field 0 ∷ field 1 ∷ []) 5 ∷ ends (field 0 ∷ []) ∷ activates [] 0 ∷ [])) ≡ Ok (Active 0 (Class phase.Alive End (More (Leaf scalar.Indeterminate) (More (Leaf scalar.Indeterminate) End))) ∷ [])
unfolding asked looked most_levels
new_after_end = refl

-- a union that loses its active member: `union V { int w; int x; } a, b; a.x = 7; a = b;`, where `b` has none

-- it has none
none_left : ask trees_of (after (makes (of_type inner_union) ∷ activates [] 1 ∷ stores (field 1 ∷ []) 7 ∷ deactivates [] ∷ [])) ≡ Ok (Union ∷ [])
unfolding asked looked most_levels
none_left = refl

-- and none is told
none_left_told : ask (λ os. active sample os (place [])) (after (makes (of_type inner_union) ∷ activates [] 1 ∷ stores (field 1 ∷ []) 7 ∷ deactivates [] ∷ [])) ≡ Ok None
unfolding asked looked most_levels
none_left_told = refl

-- nothing is read there
none_left_read : ask (loads (place (field 1 ∷ []))) (after (makes (of_type inner_union) ∷ activates [] 1 ∷ stores (field 1 ∷ []) 7 ∷ deactivates [] ∷ [])) ≡ Err rule.InactiveMember
unfolding asked looked most_levels
none_left_read = refl

-- the member activated once more is new
new_after_none : ask (loads (place (field 1 ∷ []))) (after (makes (of_type inner_union) ∷ activates [] 1 ∷ stores (field 1 ∷ []) 7 ∷ deactivates [] ∷ activates [] 1 ∷ [])) ≡ Err rule.Indeterminate
unfolding asked looked most_levels
new_after_none = refl

-- a union that has none stays so
none_twice : after (makes (of_type inner_union) ∷ deactivates [] ∷ []) ≡ after (makes (of_type inner_union) ∷ [])
unfolding asked looked most_levels
none_twice = refl

-- the union in a union loses its member, and the outer one keeps it
inner_none : ask trees_of (after (makes (of_type holder) ∷ activates (field 0 ∷ []) 1 ∷ activates (field 0 ∷ field 1 ∷ []) 0 ∷ deactivates (field 0 ∷ field 1 ∷ []) ∷ [])) ≡ Ok (Class phase.Unborn End (More (Active 1 Union) End) ∷ [])
unfolding asked looked most_levels
inner_none = refl

-- a released one is dangling
deactivate_released : after (makes (of_type inner_union) ∷ releases 0 ∷ deactivates [] ∷ []) ≡ Err rule.Dangling
unfolding asked looked most_levels
deactivate_released = refl

-- nothing stands past the end
deactivate_past : ask (λ os. deactivate sample os (past [])) (after (makes (born birth.Usable inner_union) ∷ [])) ≡ Err rule.PastEnd
unfolding asked looked most_levels
deactivate_past = refl

-- one from before the evaluation is not changed
deactivate_outside : ask (λ os. deactivate sample os (place (field 0 ∷ field 1 ∷ []))) (after (makes (born birth.Usable holder) ∷ [])) ≡ Err rule.OutsideWrite
unfolding asked looked most_levels
deactivate_outside = refl

-- nor one that is no active member
deactivate_inactive : after (makes (of_type holder) ∷ activates (field 0 ∷ []) 0 ∷ deactivates (field 0 ∷ field 1 ∷ []) ∷ []) ≡ Err rule.InactiveMember
unfolding asked looked most_levels
deactivate_inactive = refl

-- lifetimes are not asked
deactivate_unborn : ask trees_of (after (makes (of_type holder) ∷ activates (field 0 ∷ []) 0 ∷ deactivates (field 0 ∷ []) ∷ [])) ≡ Ok (Class phase.Unborn End (More Union End) ∷ [])
unfolding asked looked most_levels
deactivate_unborn = refl
