use Rattle.std.proofs.Common.{◌≡◌, map}
use Rattle.cx_syntax.specs.Classes.{lexeme_of}
use Rattle.cx_syntax.proofs.classes.lexemes.Given as goal

abbrev pub invariant-loop-token : goal.invariant-loop-token
invariant-loop-token g l = l.found ≡ map (lexeme_of (g.N.TypeNames.holds l.names)) l.yielded
