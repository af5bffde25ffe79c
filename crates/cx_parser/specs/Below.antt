-- The rules one level deeper, as function values.
use Rattle.std.specs.Prelude.{ℕ, List, Result}
use Rattle.std.specs.declared.alloc.Global.{Global}
use denote.Ref.{MutBor}
use Rattle.cx_grammar.specs.declared.stop.ParseStop.{ParseStop}
use Rattle.cx_grammar.specs.Nests.{Nests}
use Rattle.cx_grammar.specs.Reading.{Reader}
use Rattle.cx_tree.specs.declared.exprs.Expr.{Expr}
use Rattle.cx_tree.specs.declared.exprs.Braces.{Braces}
use Rattle.cx_syntax.specs.declared.lexeme.Lexeme.{Lexeme}
use Rattle.cx_syntax.specs.Values.{Operand}
use Rattle.cx_syntax.specs.Readers as r
use Rattle.cx_parser.specs.declared.grammar.ExprRule.{ExprRule}
use Rattle.cx_parser.specs.declared.grammar.ExprRule.TheVariants as rule
use Rattle.cx_parser.specs.declared.grammar.OperandRule.{OperandRule}
use Rattle.cx_parser.specs.declared.grammar.OperandRule.TheVariants as operand

-- what a rule reads
abbrev pub reader_of : ExprRule → r.Readers → Reader Lexeme Expr
reader_of rule.Expr d = r.expr d
reader_of rule.Assign d = r.assign d
reader_of rule.Cond d = r.cond d

abbrev pub operand_reader_of : OperandRule → r.Readers → Reader Lexeme Operand
operand_reader_of operand.Cast d = r.cast d
operand_reader_of operand.Unary d = r.unary d

-- what a function value asks
abbrev pub Pre : Type 1
Pre = Global → MutBor (List Lexeme) → ℕ → Type 0

-- and one that is told a rule
abbrev pub PreBy : Type 0 → Type 1
PreBy R = Global → MutBor (List Lexeme) → ℕ → R → Type 0

-- what it ensures
abbrev pub Post : Type 0 → Type 1
Post A = Global → MutBor (List Lexeme) → ℕ → Result A ParseStop → MutBor (List Lexeme) → Type 0

abbrev pub PostBy : Type 0 → Type 0 → Type 1
PostBy R A = Global → MutBor (List Lexeme) → ℕ → R → Result A ParseStop → MutBor (List Lexeme) → Type 0

-- Each reads what its rule reads, where there is a level deeper.
pub record Below (left : ℕ) (pe : PreBy ExprRule) (qe : PostBy ExprRule Expr) (po : PreBy OperandRule) (qo : PostBy OperandRule Operand) (pb : Pre) (qb : Post Braces) : Type 0 where
  pub expr : Nests (λ n. r.expr (r.deeper n)) left (λ a ts n. pe a ts n rule.Expr) (λ a ts n. qe a ts n rule.Expr)
  pub assign : Nests (λ n. r.assign (r.deeper n)) left (λ a ts n. pe a ts n rule.Assign) (λ a ts n. qe a ts n rule.Assign)
  pub cond : Nests (λ n. r.cond (r.deeper n)) left (λ a ts n. pe a ts n rule.Cond) (λ a ts n. qe a ts n rule.Cond)
  pub cast : Nests (λ n. r.cast (r.deeper n)) left (λ a ts n. po a ts n operand.Cast) (λ a ts n. qo a ts n operand.Cast)
  pub unary : Nests (λ n. r.unary (r.deeper n)) left (λ a ts n. po a ts n operand.Unary) (λ a ts n. qo a ts n operand.Unary)
  pub braces : Nests (λ n. r.braces (r.deeper n)) left pb qb
