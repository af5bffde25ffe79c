use Rattle.cx_parser.proofs.Depth.{two_is}
use Rattle.cx_parser.proofs.grammar.Grammar.room_for_two.Goals as goal

pub returns : goal.returns
returns g c = two_is c.args.self.now.left
