-- What each turn of a loop takes.
use Rattle.std.proofs.Common.{ℕ}
use Rattle.cx_grammar.specs.Reading.{Shortens}
use Rattle.cx_grammar.proofs.Heads.{heads_before}
use Rattle.cx_grammar.proofs.Steps.{exactly_before}
use Rattle.cx_grammar.proofs.Loops.{shortens}
use Rattle.cx_syntax.specs.declared.class.Class.TheVariants as k
use Rattle.cx_syntax.specs.Classes.{is}
use Rattle.cx_syntax_parts.specs.Grammar as e
use Rattle.cx_syntax_parts.proofs.Declarations.{exactly_enumr}
use Rattle.cx_syntax_vars.specs.Grammar as g
use Rattle.cx_syntax_vars.specs.Readers as r
use Rattle.cx_syntax_vars.proofs.Vars.{exactly_var}
use Rattle.cx_syntax_vars.proofs.Params.{exactly_param}
use Rattle.cx_parser_vars.specs.Parts as parts

pub short_other_enumr : (left : ℕ) → Shortens (parts.other_enumr left)
short_other_enumr left = shortens (heads_before {G = λ n. e.enumr n} (is k.Comma)) (exactly_before (is k.Comma) (exactly_enumr left))

pub short_var : (left : ℕ) → Shortens (r.other_var left)
short_var left = shortens (heads_before {G = λ n. g.var n} (is k.Comma)) (exactly_before (is k.Comma) (exactly_var left))

pub short_param : (left : ℕ) → Shortens (r.other_param left)
short_param left = shortens (heads_before {G = λ n. g.param n} (is k.Comma)) (exactly_before (is k.Comma) (exactly_param left))
