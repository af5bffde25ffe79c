-- Which tokens can go on with what was read by a rule.
use Rattle.std.specs.Prelude.{Bool, ◌||◌}
use Rattle.cx_syntax.specs.declared.class.Class.{Class}
use Rattle.cx_syntax.specs.declared.class.Class.TheVariants as k
use Rattle.cx_syntax.specs.Readers.{just}
use Rattle.cx_syntax.specs.Sets.{starts_specs}
use Rattle.cx_syntax.specs.Goes.{goes_assign}

-- an initializer, and so a variable
abbrev pub goes_var : Class → Bool
goes_var c = goes_assign c

abbrev pub goes_vars : Class → Bool
goes_vars c = goes_var c || just k.Comma c

abbrev pub goes_param : Class → Bool
goes_param c = starts_specs c || goes_assign c

abbrev pub goes_params : Class → Bool
goes_params c = goes_param c || just k.Comma c
