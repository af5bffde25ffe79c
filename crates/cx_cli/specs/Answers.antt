-- What the top call answers.
use Rattle.std.specs.Prelude.{◌≡◌, ℕ, ◌<◌, Bool, true, false, List, length, take, Option, Some, IfSome, if◌then◌else◌}
use Rattle.std.specs.Io.KnownBytes.{Appends}
use Rattle.std.specs.Option.{option_map}
use Rattle.cx_base.specs.Only.{IsOnly}
use Rattle.cx_made.specs.Unit.{unit}
use Rattle.cx_source.specs.Causes.{Rose}
use Rattle.cx_source.specs.Contents.{read_of}
use Rattle.cx_report.specs.declared.verdict.Mode.TheVariants as mode
use Rattle.cx_report.specs.declared.verdict.Verdict.{Verdict}
use Rattle.cx_report.specs.declared.verdict.Verdict.TheVariants as verdict
use Rattle.cx_report.specs.Report.{report_of, summary_of}
use Rattle.cx_unit.specs.Verdict.{IsVerdict}
use Rattle.cx_words.specs.declared.job.Job.{Job}
use Rattle.cx_words.specs.declared.job.JobMode.{JobMode}
use Rattle.cx_words.specs.declared.job.JobMode.TheVariants.{Print, Check, Notes, Make}
use Rattle.cx_cli.specs.declared.status.Status.{Status}
use Rattle.cx_cli.specs.declared.status.Status.TheVariants.{Accepted, Refused, Usage, ReadFault, WriteFault, Memory}

-- the exit status
abbrev pub code_of : Status → ℕ
code_of Accepted = 0
code_of Refused = 1
code_of Usage = 2
code_of ReadFault = 3
code_of (WriteFault written) = 4
code_of Memory = 5

-- it is an answer with a report
abbrev pub HasReport : Status → Type 0
HasReport Accepted = Unit {0}
HasReport Refused = Unit {0}
HasReport _ = ⊥

-- a fault of writing
abbrev pub IsWriteFault : Status → Type 0
IsWriteFault (WriteFault n) = Unit {0}
IsWriteFault _ = ⊥

-- a fault of reading is told only where the count of the source's faults rose, and any other answer only where it stands as it did
abbrev pub TellsReadFaults : ℕ → ℕ → Status → Type 0
TellsReadFaults before now ReadFault = Rose before now
TellsReadFaults before now _ = now ≡ before

-- a fault of writing, with the count of the sink's faults
abbrev pub TellsWriteFaults : ℕ → ℕ → Status → Type 0
TellsWriteFaults before now (WriteFault n) = Rose before now
TellsWriteFaults before now _ = now ≡ before

-- ---- what a job judges, and how it tells it

-- a unit is made, and nothing is read
abbrev pub makes : JobMode → Bool
makes Make = true
makes _ = false

-- the bytes of the made unit, or what is read of a source that has these bytes left, where it tells them
abbrev pub given : Job → Option (List ℕ) → Option (List ℕ)
given job left = if makes job.mode then Some (unit job.seed job.count) else option_map read_of left

-- the report in the job's mode; a made unit is summed up
abbrev pub text_of : JobMode → ℕ → Verdict → List ℕ
text_of Print size v = report_of mode.Print v
text_of Check size v = report_of mode.Check v
text_of Notes size v = report_of mode.Notes v
text_of Make size v = summary_of size v

abbrev pub report_for : Job → Verdict → List ℕ
report_for job v = text_of job.mode (length (unit job.seed job.count)) v

-- the one verdict on these bytes under the limits, where they are known
abbrev pub IsVerdictOn : Job → Option (List ℕ) → Verdict → Type 0
IsVerdictOn job bytes v = IfSome bytes (λ bs. IsOnly (IsVerdict job.limits bs) v)

-- the answer tells which verdict it is, and this report was written, or so much of it
abbrev pub Writes : Status → Verdict → List ℕ → Option (List ℕ) → Option (List ℕ) → Type 0
Writes Accepted (verdict.Accepted lines) report old new = Appends old new report
Writes Refused (verdict.Refused diag) report old new = Appends old new report
Writes (WriteFault n) v report old new = (n < length report) × Appends old new (take n report)
Writes _ _ report old new = ⊥

-- The one verdict on the job's bytes was told and its report written, or so much of it. Where the bytes aren't known it is
-- some verdict.
pub record Reports (job : Job) (bytes : Option (List ℕ)) (status : Status) (old new : Option (List ℕ)) : Type 0 where
  pub verdict : Verdict
  pub judged : IsVerdictOn job bytes verdict
  pub writes : Writes status verdict (report_for job verdict) old new
