-- What a verdict, or the want of one, tells of the source.
use Rattle.std.specs.Prelude.{◌≡◌, ℕ, Result, Ok, Err}
use Rattle.cx_source.specs.Causes.{Rose}
use Rattle.cx_cli.specs.declared.judging.NoVerdict.{NoVerdict}
use Rattle.cx_cli.specs.declared.judging.NoVerdict.TheVariants.{ReadFault, Memory}

-- a fault of reading is told only where the count of faults rose, and any other answer only where it stands as it did
abbrev pub TellsFaults : {T : Type 0} → ℕ → ℕ → Result T NoVerdict → Type 0
TellsFaults before now (Ok x) = now ≡ before
TellsFaults before now (Err ReadFault) = Rose before now
TellsFaults before now (Err Memory) = now ≡ before

-- the source wasn't read, and no fault of reading is told
abbrev pub MadeOf : {S T : Type 0} → S → S → Result T NoVerdict → Type 0
MadeOf before now (Ok x) = now ≡ before
MadeOf before now (Err ReadFault) = ⊥
MadeOf before now (Err Memory) = now ≡ before
