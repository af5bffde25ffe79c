-- What a case of a whole unit says.
use Rattle.std.specs.Prelude.{◌≡◌, ◌↔◌, ℕ, Bool, List, IsTrue}
use Rattle.cx_base.specs.Only.{IsOnly}
use Rattle.cx_base.specs.declared.limits.Limits.{Limits}
use Rattle.cx_report.specs.declared.verdict.Mode.TheVariants.{Print}
use Rattle.cx_report.specs.declared.verdict.Verdict.{Verdict}
use Rattle.cx_report.specs.Report.{report_of}
use Rattle.cx_unit.specs.Verdict.{IsVerdict}

-- the test tells whether the report of the one verdict on these bytes under the limits is this text
pub record TellsReport (limits : Limits) (source text : List ℕ) (test : Bool) : Type 0 where
  pub verdict : Verdict
  pub judged : IsOnly (IsVerdict limits source) verdict
  pub same : IsTrue test ↔ (report_of Print verdict ≡ text)
