-- What parameters begin with.
use Rattle.std.proofs.Common.{◌≡◌, true, false, ◌||◌, refl, sym, ◌∙◌, ap}
use Rattle.cx_syntax.specs.declared.class.Class.{Class}
use Rattle.cx_syntax.specs.declared.class.Class.TheVariants as k
use Rattle.cx_syntax.specs.Classes.{same_class}
use Rattle.cx_syntax.specs.Readers.{just}
use Rattle.cx_syntax.specs.Sets.{starts_specs}
use Rattle.cx_syntax_vars.specs.Sets.{starts_param}

-- parameters begin with `[` or with specifiers
begins_param : (c : Class) → (just k.OpenBracket c || starts_specs c) ≡ starts_param c
unfolding same_class
begins_param k.OpenBracket = refl
begins_param _ = refl

pub param_open : (c : Class) → just k.OpenBracket c ≡ true → starts_param c ≡ true
param_open c e = sym (begins_param c) ∙ ap (λ b. b || starts_specs c) e

pub param_specs : (c : Class) → just k.OpenBracket c ≡ false → starts_param c ≡ starts_specs c
param_specs c e = sym (begins_param c) ∙ ap (λ b. b || starts_specs c) e
