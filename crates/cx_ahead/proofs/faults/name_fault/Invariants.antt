use Rattle.std.proofs.Common.{◌≡◌, false, length}
use Rattle.cx_grammar.specs.Exact.{Outcome}
use Rattle.cx_syntax.specs.declared.lexeme.Lexeme.{Lexeme}
use Rattle.cx_syntax.specs.Ahead as spec
use Rattle.cx_syntax.specs.Values.{Operand}
use Rattle.cx_ahead.specs.Stops.{going}
use Rattle.cx_ahead.proofs.faults.name_fault.Given as goal

abbrev pub invariant-loop-rest : goal.invariant-loop-rest
invariant-loop-rest l = ◌≡◌ {A = Outcome Lexeme Operand} (spec.name_fault false (going l.goes) l.rest) (spec.name_fault false (going l.fn.goes) l.fn.tokens)

abbrev pub decreases-loop-rest : goal.decreases-loop-rest
decreases-loop-rest l = length l.rest
