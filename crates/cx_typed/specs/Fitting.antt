-- That programs of the code and what is judged have types that are there, and are well typed.
use Rattle.std.specs.Prelude.{◌<◌, ◌^◌, length, Option, None, Some}
use Rattle.std.specs.List.{AllByRecursion}
use Rattle.cx_type_defs.specs.Tables.{Tables}
use Rattle.cx_state.specs.declared.root.JudgeMode.{JudgeMode}
use Rattle.cx_state.specs.declared.root.JudgeMode.TheVariants as mode
use Rattle.cx_typed.specs.declared.exprs.TExpr.{TExpr}
use Rattle.cx_typed.specs.declared.program.TVariable.{TVariable}
use Rattle.cx_typed.specs.declared.judge.Full.{Full}
use Rattle.cx_typed.specs.declared.judge.FullBody.{FullBody}
use Rattle.cx_typed.specs.declared.judge.FullBody.TheVariants as full
use Rattle.cx_typed.specs.Programs.{Rows}
use Rattle.cx_typed.specs.Shown.{Within, vars_shown, full_shown}
use Rattle.cx_typed.specs.Well.{AllFit, BodyFits}

abbrev pub IsInitIn : Tables → Option TExpr → Type 0
IsInitIn t None = Unit {0}
IsInitIn t (Some e) = Within t e

-- the types of a variable are there
pub record IsVariableIn (t : Tables) (v : TVariable) : Type 0 where
  pub ty : v.ty.0 < length t.rows
  pub init : IsInitIn t v.init

-- what holds of each program
pub record IsProgram (p : Rows) : Type 0 where
  pub types : AllByRecursion (IsVariableIn p.types) p.variables
  pub fits : AllFit (vars_shown p)
  pub few : length p.variables < 2 ^ 23

abbrev pub IsBodyIn : Rows → FullBody → Type 0
IsBodyIn p (full.Expr e) = Within p.types e
IsBodyIn p (full.Variable v) = Unit {0}

-- what may be judged in a program
pub record MayJudge (p : Rows) (f : Full) : Type 0 where
  pub types : IsBodyIn p f.body
  pub fits : BodyFits (vars_shown p) (full_shown p f).body

-- it is a variable that is kept
abbrev pub IsKeepable : JudgeMode → FullBody → Type 0
IsKeepable mode.Keep (full.Expr e) = ⊥
IsKeepable _ _ = Unit {0}
