-- The verdict of the bytes of a unit.
use Rattle.std.specs.Prelude.{◌≡◌, ◌⊎◌, ℕ, Bool, true, false, List, [], length, nat_lt}
use Rattle.cx_base.specs.declared.diag.Diag.{Diag}
use Rattle.cx_base.specs.declared.limits.Limits.{Limits}
use Rattle.cx_base.specs.declared.rule.Rule.TheVariants as rule
use Rattle.cx_source.specs.Contents.{longest_source}
use Rattle.cx_token_defs.specs.declared.Token.{Token}
use Rattle.cx_tokens.specs.declared.LexAnswer.{LexAnswer}
use Rattle.cx_tokens.specs.declared.LexAnswer.TheVariants as lexed
use Rattle.cx_tokens.specs.Marks.{mark_of}
use Rattle.cx_tokens.specs.Tokens.{LexFault, Lexes}
use Rattle.cx_tree.specs.declared.decls.Unit.{Unit as Tree}
use Rattle.cx_unit_parser.specs.declared.parsing.ParseAnswer.{ParseAnswer}
use Rattle.cx_unit_parser.specs.declared.parsing.ParseAnswer.TheVariants as parsed
use Rattle.cx_unit_parser.specs.Parsing.{IsFault, IsTree}
use Rattle.cx_report.specs.declared.verdict.Verdict.{Verdict}
use Rattle.cx_report.specs.declared.verdict.Verdict.TheVariants.{Refused}
use Rattle.cx_unit.specs.Decls.{verdict_of}

-- too many bytes, told at the source's first place
abbrev pub source_too_long : Verdict
source_too_long = Refused (record { span = record { start = mark_of []; end = mark_of [] }; rule = rule.SourceTooLong; frames = [] })

-- ---- from the tokens on

-- the tokens spell a unit that has this verdict under the limits
pub record IsVerdictOfTree (limits : Limits) (tokens : List Token) (verdict : Verdict) : Type 0 where
  pub tree : Tree
  pub spelled : IsTree tokens tree
  pub judged : verdict ≡ verdict_of limits tree

-- the verdict tells the first token that no unit goes on with
pub record IsVerdictOfSyntax (tokens : List Token) (verdict : Verdict) : Type 0 where
  pub fault : Diag
  pub found : IsFault tokens fault
  pub judged : verdict ≡ Refused fault

-- the tokens have this verdict under the limits: that of their tree, or their first syntax fault
abbrev pub IsVerdictFrom : Limits → List Token → Verdict → Type 0
IsVerdictFrom limits tokens verdict = IsVerdictOfSyntax tokens verdict ⊎ IsVerdictOfTree limits tokens verdict

-- ---- from the bytes on

-- some tokens of the bytes have this verdict
pub record IsVerdictOfTokens (limits : Limits) (bytes : List ℕ) (verdict : Verdict) : Type 0 where
  pub tokens : List Token
  pub lexed : Lexes bytes tokens
  pub judged : IsVerdictFrom limits tokens verdict

-- the bytes have this fault first
pub record IsVerdictOfFault (bytes : List ℕ) (verdict : Verdict) : Type 0 where
  pub fault : Diag
  pub found : LexFault bytes fault
  pub judged : verdict ≡ Refused fault

abbrev pub IsVerdictIf : Bool → Limits → List ℕ → Verdict → Type 0
IsVerdictIf true limits bytes verdict = verdict ≡ source_too_long
IsVerdictIf false limits bytes verdict = IsVerdictOfFault bytes verdict ⊎ IsVerdictOfTokens limits bytes verdict

-- the bytes have this verdict under the limits: there are too many, or it is their first lexical fault, or that of their tokens
abbrev pub IsVerdict : Limits → List ℕ → Verdict → Type 0
IsVerdict limits bytes verdict = IsVerdictIf (nat_lt longest_source (length bytes)) limits bytes verdict

-- the verdict is that of a lexical fault
abbrev pub RefusedBy : LexAnswer → Verdict → Type 0
RefusedBy (lexed.Fault fault) verdict = verdict ≡ Refused fault
RefusedBy lexed.Memory verdict = ⊥

-- the verdict is that of a syntax fault
abbrev pub StoppedBy : ParseAnswer → Verdict → Type 0
StoppedBy (parsed.Fault fault) verdict = verdict ≡ Refused fault
StoppedBy parsed.Memory verdict = ⊥
