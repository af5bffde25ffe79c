use Rattle.std.proofs.Common.{◌≡◌, ◌++◌, length}
use Rattle.cx_grammar.specs.Reading.{made}
use Rattle.cx_parser_names.specs.Parts as parts
use Rattle.cx_parser_names.proofs.names.scopes.Given as goal

abbrev pub invariant-loop-alloc : goal.invariant-loop-alloc
invariant-loop-alloc l = made (λ vs. l.found ++ vs) (parts.scopes l.tokens) ≡ parts.scopes l.fn.tokens

abbrev pub decreases-loop-alloc : goal.decreases-loop-alloc
decreases-loop-alloc l = length l.tokens
