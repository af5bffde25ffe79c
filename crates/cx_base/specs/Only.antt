-- Definitions that determine their answer.
use Rattle.std.specs.Prelude.{◌≡◌}

-- the fact holds of this value, and of no other
pub record IsOnly {A : Type 0} (P : A → Type 0) (a : A) : Type 0 where
  pub holds : P a
  pub only : (b : A) → P b → b ≡ a
