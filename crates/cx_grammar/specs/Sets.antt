-- Sets of tokens, as tests on them.
use Rattle.std.specs.Prelude.{Bool, false, ◌||◌}

-- the tokens whose class is such
abbrev pub of : {T C : Type 0} → (T → C) → (C → Bool) → T → Bool
of class p t = p (class t)

abbrev pub never : {T : Type 0} → T → Bool
never t = false

abbrev pub or : {T : Type 0} → (T → Bool) → (T → Bool) → T → Bool
or p q t = p t || q t

-- what goes on with a value, where that does not depend on the value
abbrev pub by : {T A : Type 0} → (T → Bool) → A → T → Bool
by q v t = q t
