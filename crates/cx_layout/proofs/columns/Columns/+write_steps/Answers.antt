use Rattle.std.proofs.Common.{◌+◌, ◌*◌, ◌-◌, ◌/◌, ◌≤◌, sym, subst, arith}
use Rattle.cx_layout.specs.Described.{columns_form}
use Rattle.cx_layout.specs.Walks.{Walks}
use Rattle.cx_layout.proofs.Walking.{in_there, in_parent, parent_before}
use Rattle.cx_layout.proofs.Writing.{walks_first, walks_element, walks_listed, start_before, cells_some, listed_start}
use Rattle.cx_layout.proofs.columns.Columns.+write_steps.Goals as goal

pub node-row-requires : goal.node-row-requires
node-row-requires t c = in_there c.args.self.now.nodes.items c.args.self.now.parts.items (columns_form c.args.self.now) c.args.node c.args.slot c.requires

pub write_steps-requires : goal.write_steps-requires
write_steps-requires t c =
    let l : 1 ≤ c.args.node = omega arith in
    let b = parent_before c.args.self.now.nodes.items c.args.self.now.parts.items (columns_form c.args.self.now) c.args.node c.args.slot c.requires l c.node-row.result c.node-row.ensures in
    (omega arith, in_parent c.args.self.now.nodes.items c.args.self.now.parts.items (columns_form c.args.self.now) c.args.node c.args.slot c.requires l c.node-row.result c.node-row.ensures)

pub returns-then-node-eq0 : goal.returns-then-node-eq0
returns-then-node-eq0 t c = walks_first (columns_form c.args.self.now) c.args.node c.args.slot c.args.steps.now c.if-node-eq0.true

pub overflow_sub-index : goal.overflow_sub-index
overflow_sub-index t c =
    let l : 1 ≤ c.args.node = omega arith in
    start_before c.args.self.now.nodes.items c.args.self.now.parts.items (columns_form c.args.self.now) c.args.node c.args.slot c.requires l c.node-row.result c.node-row.ensures c.in_ok-start.start c.args.steps.now c.write_steps.new.steps c.in_ok-start.ensures

pub nonzero_div-index : goal.nonzero_div-index
nonzero_div-index t c =
    let l : 1 ≤ c.args.node = omega arith in
    let a = cells_some c.args.self.now.nodes.items c.args.self.now.parts.items (columns_form c.args.self.now) c.args.node c.args.slot c.requires l c.node-row.result c.node-row.ensures c.in_ok-start.start c.args.steps.now c.write_steps.new.steps c.in_ok-start.ensures in
    omega arith

pub overflow_add-result-in_default : goal.overflow_add-result-in_default
overflow_add-result-in_default t c =
    let l : 1 ≤ c.args.node = omega arith in
    let a = listed_start c.args.self.now.nodes.items c.args.self.now.parts.items (columns_form c.args.self.now) c.args.node c.args.slot c.requires l c.node-row.result c.node-row.ensures c.in_ok-start.start c.args.steps.now c.write_steps.new.steps c.in_ok-start.ensures c.in_default.not-Elem in
    let s = c.ranges.slot.fits in
    omega arith

pub returns-in_ok-push-in-Elem : goal.returns-in_ok-push-in-Elem
returns-in_ok-push-in-Elem t c =
    let l : 1 ≤ c.args.node = omega arith in
    subst (λ us. Walks (columns_form c.args.self.now) c.args.node c.args.slot (c.in_ok-start.start + (c.args.slot - c.in_ok-start.start) / c.node-row.result.cells * c.node-row.result.cells) c.args.steps.now us) (sym c.in_ok-push-in-Elem.ensures.ok)
    (walks_element c.args.self.now.nodes.items c.args.self.now.parts.items (columns_form c.args.self.now) c.args.node c.args.slot c.requires l c.node-row.result c.node-row.ensures c.in_ok-start.start c.args.steps.now c.write_steps.new.steps c.in_ok-start.ensures c.in-Elem.field-0 c.in-Elem.is)

pub returns-in_ok-push-in_default : goal.returns-in_ok-push-in_default
returns-in_ok-push-in_default t c =
    let l : 1 ≤ c.args.node = omega arith in
    subst (λ us. Walks (columns_form c.args.self.now) c.args.node c.args.slot (c.in_ok-start.start + c.node-row.result.under.offset) c.args.steps.now us) (sym c.in_ok-push-in_default.ensures.ok)
    (walks_listed c.args.self.now.nodes.items c.args.self.now.parts.items (columns_form c.args.self.now) c.args.node c.args.slot c.requires l c.node-row.result c.node-row.ensures c.in_ok-start.start c.args.steps.now c.write_steps.new.steps c.in_ok-start.ensures c.in_default.not-Elem)
