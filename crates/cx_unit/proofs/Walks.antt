-- Steps of the walks.
use Rattle.std.proofs.Common.{◌≡◌, Some, None, Option, refl}
use Rattle.std.specs.Option.{option_or}

pub or_none : {A : Type 0} (a : Option A) → option_or a None ≡ a
or_none None = refl
or_none (Some x) = refl

pub or_assoc : {A : Type 0} (a b c : Option A) → option_or (option_or a b) c ≡ option_or a (option_or b c)
or_assoc None b c = refl
or_assoc (Some x) b c = refl
