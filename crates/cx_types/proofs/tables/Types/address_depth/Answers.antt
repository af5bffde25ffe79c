use Rattle.cx_types.proofs.Rows.{address-depth-deeper}
use Rattle.cx_types.proofs.tables.Types.address_depth.Goals as goal

pub returns-in_default-Some : goal.returns-in_default-Some
returns-in_default-Some c = address-depth-deeper c.args.self.now c.args.to c.row.result c.in_default-Some.kept c.row.ensures c.in_default-Some.not-Class-0 c.in_default-Some.ensures
