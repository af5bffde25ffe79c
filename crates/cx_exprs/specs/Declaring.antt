-- What declarations add to what is known ([basic.scope.pdecl], [dcl.init], [dcl.constexpr]).
use Rattle.std.specs.Prelude.{ℕ, Bool, List, [], ◌∷◌, ◌++◌, length, None, Some, Result, Ok, Err}
use Rattle.cx_base.specs.declared.diag.Mark.{Mark}
use Rattle.cx_base.specs.declared.diag.Span.{Span}
use Rattle.cx_base.specs.declared.int_type.IntType.{IntType}
use Rattle.cx_base.specs.declared.rule.Rule.TheVariants as rule
use Rattle.cx_scopes.specs.declared.kinds.Entity.TheVariants as entity
use Rattle.cx_scopes.specs.declared.kinds.LookAnswer.{LookAnswer}
use Rattle.cx_scopes.specs.Scopes.{ScopeTables}
use Rattle.cx_scopes.specs.Steps.{declared}
use Rattle.cx_type_defs.specs.declared.ids.VarId.{VarId}
use Rattle.cx_type_defs.specs.Same.{Int, Const}
use Rattle.cx_type_defs.specs.Tables.{changed_at}
use Rattle.cx_typed.specs.declared.judge.Value.{Value}
use Rattle.cx_typed.specs.declared.lines.LineKind.{LineKind}
use Rattle.cx_typed.specs.Texts.{value_text_of}
use Rattle.cx_typed.specs.Trees.{Var}
use Rattle.cx_exprs.specs.Parts.{Tree}
use Rattle.cx_exprs.specs.Typing.{Typed, Good, World, broken}

-- a variable of a const integer type, before its initializer
abbrev pub const_var : IntType → Bool → List ℕ → Span → Var
const_var ty c name at = record { name = name; ty = Const (Int ty); at = at; is_constexpr = c; init = None }

abbrev pub next_variable : World → VarId
next_variable w = record { 0 = length w.variables }

abbrev pub visible : Var → World → Result ScopeTables LookAnswer → Typed VarId
visible v w (Ok names) = Good (next_variable w) (record w { names = names; variables = w.variables ++ v ∷ [] })
visible v w (Err e) = broken rule.Redeclared v.at

-- a variable more, which its name means from here on
abbrev pub introduced : Var → World → Typed VarId
introduced v w = visible v w (declared w.names v.name (entity.Variable (next_variable w)))

-- what a variable is initialized from
abbrev pub initialized : VarId → Tree → World → World
initialized v x w = record w { variables = changed_at (λ (d : Var). record d { init = Some x }) w.variables v.0 }

-- a line more
abbrev pub with_line : LineKind → Mark → List ℕ → Value → World → World
with_line k start name x w = record w { lines = w.lines ++ record { start = start; kind = k; name = name; value = x; text = value_text_of x } ∷ [] }
