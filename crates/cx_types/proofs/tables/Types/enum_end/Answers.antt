use Rattle.std.proofs.Common.{sym, subst, slice_get}
use Rattle.std.specs.Int.{w128}
use Rattle.std.proofs.lemmas.Int.{to_z-of_z}
use Rattle.cx_type_defs.specs.Tables.{Tables}
use Rattle.cx_type_defs.specs.Enums.{MayEnd}
use Rattle.cx_type_defs.proofs.Growing.{MayEnd-none, MayEnd-under}
use Rattle.cx_types.proofs.Whole.{All-end}
use Rattle.cx_types.proofs.tables.Types.enum_end.Goals as goal

pub invariant_of-self : goal.invariant_of-self
invariant_of-self c =
    let may = subst (λ (t : Tables). MayEnd (slice_get t.enums c.args.id.0) c.args.under c.args.low c.args.high) (sym c.self.view_is) c.requires in
    rw c.end_at.ensures (All-end _ c.args.id _ _ _ _ (MayEnd-none _ c.args.under c.args.low c.args.high may) c.args.low c.args.high (to_z-of_z w128 c.args.low c.ranges.low) (to_z-of_z w128 c.args.high c.ranges.high) (MayEnd-under _ c.args.under c.args.low c.args.high may) c.self.invariant)
