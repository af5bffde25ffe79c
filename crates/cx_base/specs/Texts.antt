-- The bytes of a text: short ones lie in it, longer ones in an allocation.
use Rattle.std.specs.Prelude.{List, ℕ, take, ◌≤◌}
use Rattle.cx_base.specs.declared.text.Held.{Held}
use Rattle.cx_base.specs.declared.text.Held.TheVariants as held

abbrev pub held_bytes : Held → List ℕ
held_bytes (held.Short short) = take short.len short.bytes
held_bytes (held.Long bytes) = bytes.value.items

abbrev pub IsHeld : Held → Type 0
IsHeld (held.Short short) = short.len ≤ 14
IsHeld (held.Long bytes) = Unit {0}
