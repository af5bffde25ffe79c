-- What a whole read answers, and what it has fed.
use Rattle.std.specs.Prelude.{◌≡◌, ℕ, List, length, Option, IfSome, Result, Ok, Err}
use Rattle.std.specs.Io.KnownBytes.{Consumes}
use Rattle.cx_source.specs.Causes.{Rose}
use Rattle.cx_source.specs.declared.read.ReadAnswer.{ReadAnswer}
use Rattle.cx_source.specs.declared.read.ReadAnswer.TheVariants.{ReadFault, TooLong, Memory}

-- a fault of reading is told only where the count of faults rose, and any other answer only where it stands as it did
abbrev pub TellsFaults : {T : Type 0} → ℕ → ℕ → Result T ReadAnswer → Type 0
TellsFaults before now (Ok x) = now ≡ before
TellsFaults before now (Err ReadFault) = Rose before now
TellsFaults before now (Err TooLong) = now ≡ before
TellsFaults before now (Err Memory) = now ≡ before

-- these n bytes were read of a source, all that it had left where it tells them, and fed
pub record HoldsRead (holds : List ℕ → Type 0) (before now : Option (List ℕ)) (n : ℕ) : Type 0 where
  pub bytes : List ℕ
  pub fed : holds bytes
  pub count : length bytes ≡ n
  pub took : Consumes before now bytes
  pub all : IfSome before (λ left. bytes ≡ left)
