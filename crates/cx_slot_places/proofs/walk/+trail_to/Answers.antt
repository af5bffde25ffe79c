use Rattle.std.proofs.Common.{◌≤◌, arith}
use Rattle.cx_layout.specs.Described.{columns_form}
use Rattle.cx_layout.proofs.Walking.{in_there, in_parent, parent_before}
use Rattle.cx_slot_places.proofs.Walking.{whole_trails, may_step, trail_starts, depth_before, trail_here, trail_on}
use Rattle.cx_slot_places.proofs.walk.+trail_to.Goals as goal

pub node-row-requires : goal.node-row-requires
node-row-requires t c = in_there c.args.columns.now.nodes.items c.args.columns.now.parts.items (columns_form c.args.columns.now) c.args.node c.args.slot c.requires

pub trail_to-outer-requires : goal.trail_to-outer-requires
trail_to-outer-requires t c =
    let p : 1 ≤ c.args.node = omega arith in
    let l = parent_before c.args.columns.now.nodes.items c.args.columns.now.parts.items (columns_form c.args.columns.now) c.args.node c.args.slot c.requires p c.node-row.result c.node-row.ensures in
    (omega arith, in_parent c.args.columns.now.nodes.items c.args.columns.now.parts.items (columns_form c.args.columns.now) c.args.node c.args.slot c.requires p c.node-row.result c.node-row.ensures)

pub step_on-next-requires : goal.step_on-next-requires
step_on-next-requires t c =
    let p : 1 ≤ c.args.node = omega arith in
    may_step c.args.columns.now.nodes.items c.args.columns.now.parts.items (columns_form c.args.columns.now) c.args.node c.args.slot c.requires p c.node-row.result c.node-row.ensures c.trail_to-outer.result.start
    (trail_starts (columns_form c.args.columns.now) c.node-row.result.under.parent c.args.slot c.args.k c.trail_to-outer.result c.trail_to-outer.ensures)

pub returns-then-node-eq0 : goal.returns-then-node-eq0
returns-then-node-eq0 t c = whole_trails (columns_form c.args.columns.now) c.args.node c.args.slot c.args.k c.if-node-eq0.true

pub returns-then-outer-k : goal.returns-then-outer-k
returns-then-outer-k t c ss p h =
    let l : 1 ≤ c.args.node = omega arith in
    trail_here c.args.columns.now.nodes.items c.args.columns.now.parts.items (columns_form c.args.columns.now) c.args.node c.args.slot c.args.k c.requires l c.node-row.result c.node-row.ensures c.trail_to-outer.result c.trail_to-outer.ensures c.step_on-next.result c.step_on-next.ensures ss p h c.if-outer-k.true

pub returns : goal.returns
returns t c ss p h =
    let l : 1 ≤ c.args.node = omega arith in
    trail_on c.args.columns.now.nodes.items c.args.columns.now.parts.items (columns_form c.args.columns.now) c.args.node c.args.slot c.args.k c.requires l c.node-row.result c.node-row.ensures c.trail_to-outer.result c.trail_to-outer.ensures c.step_on-next.result c.step_on-next.ensures ss p h c.if-outer-k.false

pub overflow_add-result : goal.overflow_add-result
overflow_add-result t c =
    let l : 1 ≤ c.args.node = omega arith in
    let b = depth_before c.args.columns.now.nodes.items c.args.columns.now.parts.items (columns_form c.args.columns.now) c.args.node c.args.slot c.args.k c.requires l c.node-row.result c.node-row.ensures c.trail_to-outer.result c.trail_to-outer.ensures in
    let m = c.ranges.node.fits in
    omega arith

pub overflow_add-result-2 : goal.overflow_add-result-2
overflow_add-result-2 t c =
    let l : 1 ≤ c.args.node = omega arith in
    let b = depth_before c.args.columns.now.nodes.items c.args.columns.now.parts.items (columns_form c.args.columns.now) c.args.node c.args.slot c.args.k c.requires l c.node-row.result c.node-row.ensures c.trail_to-outer.result c.trail_to-outer.ensures in
    let m = c.ranges.node.fits in
    omega arith
