use Rattle.std.proofs.Common.{◌≤◌, arith, subst, sym}
use Rattle.cx_layout.specs.Described.{columns_form}
use Rattle.cx_layout.proofs.Walking.{in_there, in_parent, parent_before}
use Rattle.cx_slot_places.specs.declared.walk.Next.{Next}
use Rattle.cx_slot_places.specs.Walks.{Starts}
use Rattle.cx_slot_places.proofs.Walking.{whole_starts, may_step, starts_next}
use Rattle.cx_slot_places.proofs.walk.+start_of.Goals as goal

pub node-row-requires : goal.node-row-requires
node-row-requires t c = in_there c.args.columns.now.nodes.items c.args.columns.now.parts.items (columns_form c.args.columns.now) c.args.node c.args.slot c.requires

pub start_of-outer-requires : goal.start_of-outer-requires
start_of-outer-requires t c =
    let p : 1 ≤ c.args.node = omega arith in
    let l = parent_before c.args.columns.now.nodes.items c.args.columns.now.parts.items (columns_form c.args.columns.now) c.args.node c.args.slot c.requires p c.node-row.result c.node-row.ensures in
    (omega arith, in_parent c.args.columns.now.nodes.items c.args.columns.now.parts.items (columns_form c.args.columns.now) c.args.node c.args.slot c.requires p c.node-row.result c.node-row.ensures)

pub step_on-requires : goal.step_on-requires
step_on-requires t c =
    let p : 1 ≤ c.args.node = omega arith in
    may_step c.args.columns.now.nodes.items c.args.columns.now.parts.items (columns_form c.args.columns.now) c.args.node c.args.slot c.requires p c.node-row.result c.node-row.ensures c.start_of-outer.result c.start_of-outer.ensures

pub returns-then-node-eq0 : goal.returns-then-node-eq0
returns-then-node-eq0 t c = whole_starts (columns_form c.args.columns.now) c.args.node c.args.slot c.if-node-eq0.true

pub returns : goal.returns
returns t c =
    let p : 1 ≤ c.args.node = omega arith in
    subst (λ (n : Next). Starts (columns_form c.args.columns.now) c.args.node c.args.slot n.start) (sym c.step_on.ensures)
    (starts_next c.args.columns.now.nodes.items c.args.columns.now.parts.items (columns_form c.args.columns.now) c.args.node c.args.slot c.requires p c.node-row.result c.node-row.ensures c.start_of-outer.result c.start_of-outer.ensures)
