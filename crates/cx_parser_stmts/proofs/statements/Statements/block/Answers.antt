use Rattle.cx_parser_stmts.proofs.Short.{short_item}
use Rattle.cx_parser_stmts.proofs.statements.Statements.block.Goals as goal

pub read_many-requires-clause-shortens : goal.read_many-requires-clause-shortens
read_many-requires-clause-shortens g c = short_item c.args.self.now.left
