-- The text of a value.
use Rattle.std.specs.Prelude.{ℕ, Bool, true, false, List, codes, if◌then◌else◌}
use Rattle.std.specs.Fmt.{signed_decimal}
use Rattle.cx_base.specs.declared.int_type.IntType.{IntType}
use Rattle.cx_base.specs.declared.int_type.IntType.TheVariants as type
use Rattle.cx_ints.specs.Conversions.{is_zero}
use Rattle.cx_ints.specs.declared.int.Int.{Int}
use Rattle.cx_typed.specs.declared.judge.Value.{Value}
use Rattle.cx_typed.specs.declared.judge.Value.TheVariants as value

abbrev pub is_bool : IntType → Bool
is_bool type.Bool = true
is_bool _ = false

-- `true` or `false`, or the number in decimal
abbrev pub int_text : Int → List ℕ
int_text a = if is_bool a.ty then (if is_zero a.value then codes "false" else codes "true") else signed_decimal a.value

abbrev pub value_text_of : Value → List ℕ
value_text_of (value.Int a) = int_text a
