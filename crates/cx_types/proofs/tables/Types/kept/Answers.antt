use Rattle.std.proofs.Common.{◌<◌, length, refl, subst, arith}
use Rattle.std.proofs.lemmas.Option.{slice_get_read}
use Rattle.cx_type_defs.specs.Tables.{Tables, body_at}
use Rattle.cx_types.specs.Kept.{Kept}
use Rattle.cx_types.proofs.Rows.{class-row, no-class}
use Rattle.cx_types.proofs.tables.Types.kept.Goals as goal

pub returns-in_ok-measure-in-Class : goal.returns-in_ok-measure-in-Class
returns-in_ok-measure-in-Class c =
    class-row c.args.self.now c.args.id c.row.result c.in-Class.class (body_at c.args.self.now c.in-Class.class) c.in_ok-measure-in-Class.measure c.row.ensures c.in-Class.is c.in_ok-measure-in-Class.ensures

pub returns-in_default : goal.returns-in_default
returns-in_default c =
    let k = subst (λ (t : Tables). Kept t c.self.inside.facts.items c.self.inside.measures.items) c.self.view_is c.self.invariant.measures_kept in
    let w : c.args.id.0 < length c.self.inside.facts.items = (let l = c.requires in let e = k.each_row in omega arith) in
    k.rows_kept c.args.id c.row.result c.index.result.now c.row.ensures (slice_get_read c.self.inside.facts.items _ c.args.id.0 c.index.result.now refl w c.index.ensures) (no-class c.row.result.kind c.in_default.not-Class)
