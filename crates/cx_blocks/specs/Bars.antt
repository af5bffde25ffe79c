-- What bars an access to an object, before what stands at the place is asked ([basic.life], [expr.const]).
use Rattle.std.specs.Prelude.{Bool, Option, None, Some, if◌then◌else◌}
use Rattle.cx_base.specs.declared.rule.Rule.{Rule}
use Rattle.cx_base.specs.declared.rule.Rule.TheVariants as rule

abbrev pub barred : Bool → Bool → Bool → Rule → Option Rule
barred released past third name = if released then Some rule.Dangling else if past then Some rule.PastEnd else if third then Some name else None
