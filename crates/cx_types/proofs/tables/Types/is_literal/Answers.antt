use Rattle.cx_types.proofs.Rows.{kept-literal, open-literal}
use Rattle.cx_types.proofs.tables.Types.is_literal.Goals as goal

pub returns-in-Some : goal.returns-in-Some
returns-in-Some c = kept-literal c.args.self.now c.args.id c.in-Some.kept c.in-Some.ensures

pub returns-in-None : goal.returns-in-None
returns-in-None c = open-literal c.args.self.now c.args.id c.in-None.ensures
