-- Faults that are told ahead.
use Rattle.std.specs.Prelude.{◌≡◌, ℕ, Bool}
use Rattle.cx_base.specs.declared.rule.Rule.{Rule}
use Rattle.cx_grammar.specs.declared.stop.ParseStop.{ParseStop}
use Rattle.cx_grammar.specs.declared.stop.ParseStop.TheVariants.{Fault}
use Rattle.cx_grammar.specs.Exact.{Outcome, stop}
use Rattle.cx_syntax.specs.declared.class.Class.{Class}
use Rattle.cx_syntax.specs.declared.lexeme.Lexeme.{Lexeme}
use Rattle.cx_syntax.specs.Sets.{starts_given, follows_name, is_operator_word, starts_assign}
use Rattle.cx_syntax.specs.Values.{Operand}
use Rattle.cx_ahead.specs.declared.faults.Goes.{Goes}
use Rattle.cx_ahead.specs.declared.faults.Goes.TheVariants as g

-- the fault is the outcome's
abbrev pub Stops : Outcome Lexeme Operand → ParseStop → Type 0
Stops outcome e = (rule : Rule) (left : ℕ) → e ≡ Fault rule left → outcome ≡ stop rule left

-- the tokens with which an expression goes on
abbrev pub going : Goes → Class → Bool
going g.Given = starts_given
going g.Name = follows_name
going g.Operator = is_operator_word
going g.Expression = starts_assign
