-- Worked cases: the objects that enclose a base, and the most derived class ([class.cdtor], [expr.static.cast]).
use Rattle.std.proofs.Common.{◌≡◌, [], ◌∷◌, Some, Ok, Err, refl}
use Rattle.cx_base.specs.declared.rule.Rule.TheVariants as rule
use Rattle.cx_type_defs.specs.Questions.{asked, looked, most_levels}
use Rattle.cx_state.specs.declared.kind.Birth.TheVariants as birth
use Rattle.cx_state.specs.declared.kind.Phase.TheVariants as phase
use Rattle.cx_state.proofs.CaseTables.{after, makes, ask, of_type, born, place, past, base, field, base_class, middle_class, derived_class, fixed_class, either_class, most_derived, fixed, either, activates, advances, begins, releases, dynamics, outers}

-- struct Base { int b; }; struct Middle : Base { int m; }; struct Derived : Middle { int d; };

-- through two bases
outer_two : ask (outers (place (base 0 ∷ base 0 ∷ [])) derived_class) (after (makes (of_type most_derived) ∷ [])) ≡ Ok (place [])
unfolding asked looked most_levels
outer_two = refl

-- through one
outer_one : ask (outers (place (base 0 ∷ base 0 ∷ [])) middle_class) (after (makes (of_type most_derived) ∷ [])) ≡ Ok (place (base 0 ∷ []))
unfolding asked looked most_levels
outer_one = refl

-- the object itself
outer_itself : ask (outers (place (base 0 ∷ base 0 ∷ [])) base_class) (after (makes (of_type most_derived) ∷ [])) ≡ Ok (place (base 0 ∷ base 0 ∷ []))
unfolding asked looked most_levels
outer_itself = refl

-- a class that doesn't enclose it
outer_other : ask (outers (place (base 0 ∷ base 0 ∷ [])) fixed_class) (after (makes (of_type most_derived) ∷ [])) ≡ Err rule.DownCast
unfolding asked looked most_levels
outer_other = refl

-- a base doesn't enclose what it is a base of
outer_down : ask (outers (place []) base_class) (after (makes (of_type most_derived) ∷ [])) ≡ Err rule.DownCast
unfolding asked looked most_levels
outer_down = refl

-- a member isn't a base
outer_member : ask (outers (place (field 0 ∷ [])) either_class) (after (makes (of_type either) ∷ [])) ≡ Err rule.DownCast
unfolding asked looked most_levels
outer_member = refl

-- what is past the end encloses nothing
outer_past : ask (outers (past (base 0 ∷ base 0 ∷ [])) derived_class) (after (makes (of_type most_derived) ∷ [])) ≡ Err rule.PastEnd
unfolding asked looked most_levels
outer_past = refl

-- nor what is released
outer_dangling : ask (outers (place (base 0 ∷ base 0 ∷ [])) derived_class) (after (makes (of_type most_derived) ∷ releases 0 ∷ [])) ≡ Err rule.Dangling
unfolding asked looked most_levels
outer_dangling = refl

-- the phases are no matter
outer_opaque : ask (outers (place (base 0 ∷ base 0 ∷ [])) derived_class) (after (makes (born birth.Opaque most_derived) ∷ [])) ≡ Ok (place [])
unfolding asked looked most_levels
outer_opaque = refl

-- the seven phases of one class

-- before its life
dynamic_unborn : ask (dynamics (place [])) (after (makes (of_type fixed) ∷ [])) ≡ Err rule.OutOfLifetime
unfolding asked looked most_levels
dynamic_unborn = refl

-- while its bases are made
dynamic_bases : ask (dynamics (place [])) (after (makes (of_type fixed) ∷ advances [] phase.Bases ∷ [])) ≡ Err rule.OutOfLifetime
unfolding asked looked most_levels
dynamic_bases = refl

-- while its members are made and its body runs
dynamic_body : ask (dynamics (place [])) (after (makes (of_type fixed) ∷ advances [] phase.Bases ∷ advances [] phase.Body ∷ [])) ≡ Ok (Some (fixed_class, place []))
unfolding asked looked most_levels
dynamic_body = refl

-- in its life
dynamic_alive : ask (dynamics (place [])) (after (makes (of_type fixed) ∷ advances [] phase.Bases ∷ advances [] phase.Body ∷ advances [] phase.Alive ∷ [])) ≡ Ok (Some (fixed_class, place []))
unfolding asked looked most_levels
dynamic_alive = refl

-- while its destructor runs
dynamic_ending : ask (dynamics (place [])) (after (makes (of_type fixed) ∷ advances [] phase.Bases ∷ advances [] phase.Body ∷ advances [] phase.Alive ∷ advances [] phase.Ending ∷ [])) ≡ Ok (Some (fixed_class, place []))
unfolding asked looked most_levels
dynamic_ending = refl

-- while its bases are unmade
dynamic_ending_bases : ask (dynamics (place [])) (after (makes (of_type fixed) ∷ advances [] phase.Bases ∷ advances [] phase.Body ∷ advances [] phase.Alive ∷ advances [] phase.Ending ∷ advances [] phase.EndingBases ∷ [])) ≡ Err rule.OutOfLifetime
unfolding asked looked most_levels
dynamic_ending_bases = refl

-- after its life
dynamic_ended : ask (dynamics (place [])) (after (makes (of_type fixed) ∷ advances [] phase.Bases ∷ advances [] phase.Body ∷ advances [] phase.Alive ∷ advances [] phase.Ending ∷ advances [] phase.EndingBases ∷ advances [] phase.Ended ∷ [])) ≡ Err rule.OutOfLifetime
unfolding asked looked most_levels
dynamic_ended = refl

-- a base while the classes that it is a base of are made and unmade

-- in the innermost constructor
in_base_constructor : ask (dynamics (place (base 0 ∷ base 0 ∷ []))) (after (makes (of_type most_derived) ∷ advances [] phase.Bases ∷ advances (base 0 ∷ []) phase.Bases ∷ advances (base 0 ∷ base 0 ∷ []) phase.Bases ∷ advances (base 0 ∷ base 0 ∷ []) phase.Body ∷ [])) ≡ Ok (Some (base_class, place (base 0 ∷ base 0 ∷ [])))
unfolding asked looked most_levels
in_base_constructor = refl

-- the base is done, and the constructor around it still makes its bases
base_is_done : ask (dynamics (place (base 0 ∷ base 0 ∷ []))) (after (makes (of_type most_derived) ∷ advances [] phase.Bases ∷ advances (base 0 ∷ []) phase.Bases ∷ advances (base 0 ∷ base 0 ∷ []) phase.Bases ∷ advances (base 0 ∷ base 0 ∷ []) phase.Body ∷ advances (base 0 ∷ base 0 ∷ []) phase.Alive ∷ [])) ≡ Ok (Some (base_class, place (base 0 ∷ base 0 ∷ [])))
unfolding asked looked most_levels
base_is_done = refl

-- in the body of the next
in_middle_constructor : ask (dynamics (place (base 0 ∷ base 0 ∷ []))) (after (makes (of_type most_derived) ∷ advances [] phase.Bases ∷ advances (base 0 ∷ []) phase.Bases ∷ advances (base 0 ∷ base 0 ∷ []) phase.Bases ∷ advances (base 0 ∷ base 0 ∷ []) phase.Body ∷ advances (base 0 ∷ base 0 ∷ []) phase.Alive ∷ advances (base 0 ∷ []) phase.Body ∷ [])) ≡ Ok (Some (middle_class, place (base 0 ∷ [])))
unfolding asked looked most_levels
in_middle_constructor = refl

-- in the body of the last
in_last_constructor : ask (dynamics (place (base 0 ∷ base 0 ∷ []))) (after (makes (of_type most_derived) ∷ advances [] phase.Bases ∷ advances (base 0 ∷ []) phase.Bases ∷ advances (base 0 ∷ base 0 ∷ []) phase.Bases ∷ advances (base 0 ∷ base 0 ∷ []) phase.Body ∷ advances (base 0 ∷ base 0 ∷ []) phase.Alive ∷ advances (base 0 ∷ []) phase.Body ∷ advances (base 0 ∷ []) phase.Alive ∷ advances [] phase.Body ∷ [])) ≡ Ok (Some (derived_class, place []))
unfolding asked looked most_levels
in_last_constructor = refl

-- all are alive
all_alive : ask (dynamics (place (base 0 ∷ base 0 ∷ []))) (after (makes (of_type most_derived) ∷ advances [] phase.Bases ∷ advances (base 0 ∷ []) phase.Bases ∷ advances (base 0 ∷ base 0 ∷ []) phase.Bases ∷ advances (base 0 ∷ base 0 ∷ []) phase.Body ∷ advances (base 0 ∷ base 0 ∷ []) phase.Alive ∷ advances (base 0 ∷ []) phase.Body ∷ advances (base 0 ∷ []) phase.Alive ∷ advances [] phase.Body ∷ advances [] phase.Alive ∷ [])) ≡ Ok (Some (derived_class, place []))
unfolding asked looked most_levels
all_alive = refl

-- the last one's destructor has run, and its base is still alive
base_outlives : ask (dynamics (place (base 0 ∷ base 0 ∷ []))) (after (makes (of_type most_derived) ∷ advances [] phase.Bases ∷ advances (base 0 ∷ []) phase.Bases ∷ advances (base 0 ∷ base 0 ∷ []) phase.Bases ∷ advances (base 0 ∷ base 0 ∷ []) phase.Body ∷ advances (base 0 ∷ base 0 ∷ []) phase.Alive ∷ advances (base 0 ∷ []) phase.Body ∷ advances (base 0 ∷ []) phase.Alive ∷ advances [] phase.Body ∷ advances [] phase.Alive ∷ advances [] phase.Ending ∷ advances [] phase.EndingBases ∷ [])) ≡ Ok (Some (middle_class, place (base 0 ∷ [])))
unfolding asked looked most_levels
base_outlives = refl

-- then the middle's
base_alone_lives : ask (dynamics (place (base 0 ∷ base 0 ∷ []))) (after (makes (of_type most_derived) ∷ advances [] phase.Bases ∷ advances (base 0 ∷ []) phase.Bases ∷ advances (base 0 ∷ base 0 ∷ []) phase.Bases ∷ advances (base 0 ∷ base 0 ∷ []) phase.Body ∷ advances (base 0 ∷ base 0 ∷ []) phase.Alive ∷ advances (base 0 ∷ []) phase.Body ∷ advances (base 0 ∷ []) phase.Alive ∷ advances [] phase.Body ∷ advances [] phase.Alive ∷ advances [] phase.Ending ∷ advances [] phase.EndingBases ∷ advances (base 0 ∷ []) phase.Ending ∷ advances (base 0 ∷ []) phase.EndingBases ∷ [])) ≡ Ok (Some (base_class, place (base 0 ∷ base 0 ∷ [])))
unfolding asked looked most_levels
base_alone_lives = refl

-- other objects

-- in an opaque object it is the outermost, whatever the phases
dynamic_opaque : ask (dynamics (place (base 0 ∷ base 0 ∷ []))) (after (makes (born birth.Opaque most_derived) ∷ [])) ≡ Ok (Some (derived_class, place []))
unfolding asked looked most_levels
dynamic_opaque = refl

-- a member ends the way out: a class within a union, alive
dynamic_member : ask (dynamics (place (field 0 ∷ []))) (after (makes (of_type either) ∷ activates [] 0 ∷ [])) ≡ Ok (Some (fixed_class, place (field 0 ∷ [])))
unfolding asked looked most_levels
dynamic_member = refl

-- past the end there is none
dynamic_past : ask (dynamics (past [])) (after (makes (of_type fixed) ∷ begins [] ∷ [])) ≡ Err rule.PastEnd
unfolding asked looked most_levels
dynamic_past = refl

-- nor in a member that isn't active
dynamic_inactive : ask (dynamics (place (field 0 ∷ []))) (after (makes (of_type either) ∷ activates [] 1 ∷ [])) ≡ Err rule.InactiveMember
unfolding asked looked most_levels
dynamic_inactive = refl
