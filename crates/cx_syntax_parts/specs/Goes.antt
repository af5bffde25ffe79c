-- Which tokens can go on with what was read by a rule.
use Rattle.std.specs.Prelude.{Bool, ◌||◌}
use Rattle.cx_syntax.specs.declared.class.Class.{Class}
use Rattle.cx_syntax.specs.declared.class.Class.TheVariants as k
use Rattle.cx_syntax.specs.Sets.{is_id}
use Rattle.cx_syntax.specs.Readers.{just}
use Rattle.cx_syntax.specs.Goes.{goes_assign}

-- attributes: one more
abbrev pub goes_attrs : Class → Bool
goes_attrs c = just k.OpenBracket c

abbrev pub goes_noex : Class → Bool
goes_noex c = just k.Noexcept c || just k.OpenParen c

abbrev pub goes_enumr : Class → Bool
goes_enumr c = goes_attrs c || (just k.Equal c || goes_assign c)

abbrev pub goes_enums : Class → Bool
goes_enums c = goes_enumr c || (just k.Comma c || is_id c)
