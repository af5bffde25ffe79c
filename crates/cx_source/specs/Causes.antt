-- Counters that never fall, and what they say of a fault.
use Rattle.std.specs.Prelude.{ℕ, ◌+◌, ◌-◌, ◌^◌, ◌≤◌, min, Result, OnErr, MatchResult}

-- one more, up to the counter's last value
abbrev pub next_count : ℕ → ℕ
next_count n = min (n + 1) (2 ^ 64 - 1)

-- The count rose in between, or stands at its last value.
abbrev pub Rose : ℕ → ℕ → Type 0
Rose before now = next_count before ≤ now

-- an error is told only where the count rose
pub record HasCause {T E : Type 0} (before now : ℕ) (result : Result T E) : Type 0 where
  pub later : before ≤ now
  pub failed : OnErr result (Rose before now)

-- a counter went up by n, up to its last value
pub record Counts (before now n : ℕ) : Type 0 where
  pub least : min (before + n) (2 ^ 64 - 1) ≤ now
  pub most : now ≤ before + n

-- a read gave n bytes at `Ok(n)`, and none at `Err`
abbrev pub GivesCount : {E : Type 0} → ℕ → ℕ → Result ℕ E → Type 0
GivesCount before now r = MatchResult r (λ n. Counts before now n) (λ _. Counts before now 0)
