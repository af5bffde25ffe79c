-- What the loops read is never empty.
use Rattle.std.proofs.Common.{◌≡◌, ℕ, zero, suc, true}
use Rattle.cx_grammar.specs.Reading.{Shortens}
use Rattle.cx_grammar.proofs.Loops.{shortens}
use Rattle.cx_syntax.specs.Readers as e
use Rattle.cx_syntax_stmts.specs.Readers as r
use Rattle.cx_syntax_stmts.proofs.Closing.{not_done}
use Rattle.cx_syntax_stmts.proofs.Depth.{heads_item, heads_switch_item}
use Rattle.cx_syntax_stmts.proofs.Exact.{sound, exactly_item}
use Rattle.cx_syntax_stmts.proofs.Stmts.{switch_item_there}
use Rattle.cx_parser_stmts.specs.Parts.{item_there}

pub short_item : (left : ℕ) → Shortens (item_there left)
unfolding e.deeper r.deeper
short_item zero = record { at = λ ts rest v none. not_done none }
short_item (suc n) = shortens heads_item (exactly_item n)

pub short_switch_item : (left : ℕ) → r.room left ≡ true → Shortens (r.switch_item left (r.deeper left))
short_switch_item left there = shortens heads_switch_item (switch_item_there left (sound left) there)
