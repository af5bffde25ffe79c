-- The unit of seed 1 with two constants, worked out by hand.
use Rattle.std.proofs.Common.{◌≡◌, ◌++◌, refl}
use Rattle.cx_made.specs.Unit.{first_line, line, state_after, unit}

first_state : state_after 1 1 ≡ 1103527590
first_state = refl

second_state : state_after 1 2 ≡ 377401575
second_state = refl

two_constants : unit 1 2 ≡ first_line ++ line 1 1103527590 ++ line 2 377401575
unfolding unit
two_constants = refl

greatest_seed : state_after 4294967295 1 ≡ 1043980748
greatest_seed = refl
