-- What each turn of a loop takes.
use Rattle.std.proofs.Common.{◌≡◌}
use Rattle.cx_grammar.specs.Reading.{Shortens}
use Rattle.cx_syntax.specs.declared.class.Class.TheVariants as k
use Rattle.cx_syntax.specs.Classes as g
use Rattle.cx_syntax.specs.Readers as r
use Rattle.cx_parser_names.proofs.Lengths.{shortens_of, keeps_of, shrinks_token, shrinks_behind}

pub short_scope : Shortens r.scope
short_scope = shortens_of (shrinks_behind (g.is k.ColonColon) (keeps_of (shrinks_token _)))
