use Rattle.cx_types.proofs.Extents.{known-cells, open-cells}
use Rattle.cx_types.proofs.tables.Types.known_cells.Goals as goal

pub returns-in-None : goal.returns-in-None
returns-in-None c = open-cells c.args.self.now c.args.id c.in-None.ensures

pub returns-in-Some : goal.returns-in-Some
returns-in-Some c = known-cells c.args.self.now c.args.id c.in-Some.kept c.in-Some.ensures c.requires.complete
