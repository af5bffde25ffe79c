-- Specifiers begin with a modifier or with what a type begins with.
use Rattle.std.proofs.Common.{◌≡◌, ◌||◌, refl}
use Rattle.cx_syntax.specs.declared.class.Class.{Class}
use Rattle.cx_syntax.specs.declared.class.Class.TheVariants as k
use Rattle.cx_syntax.specs.Sets.{is_modifier, starts_specs, starts_typed}

pub begins_specs : (c : Class) → (is_modifier c || starts_typed c) ≡ starts_specs c
begins_specs k.Void = refl
begins_specs _ = refl
