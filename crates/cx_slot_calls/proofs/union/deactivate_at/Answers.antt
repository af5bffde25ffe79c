use Rattle.std.proofs.Common.{arith, None}
use Rattle.std.proofs.lemmas.List.{length-set}
use Rattle.cx_layout.specs.Described.{columns_form}
use Rattle.cx_slots.specs.declared.slot.SlotView.TheVariants as view
use Rattle.cx_slot_calls.proofs.Filling.{laid_there}
use Rattle.cx_slot_calls.proofs.Accesses.{not_true, not_false}
use Rattle.cx_slot_calls.proofs.Unions.{union_form, union_laid, union_within, union_cells, union_not, deactivates}
use Rattle.cx_state.specs.Steps.{deactivated}
use Rattle.cx_slot_calls.proofs.union.deactivate_at.Goals as goal

pub returns-then-not-found : goal.returns-then-not-found
returns-then-not-found c path x ss k ms show leads = union_not (columns_form c.args.columns.now) c.args.slots.now c.args.at c.find_part-found.result c.find_part-found.ensures path x ss k ms show leads deactivated (not_true c.find_part-found.result.there c.if-not-found.true)

pub node-row-requires : goal.node-row-requires
node-row-requires c = laid_there c.args.columns.now.nodes.items c.args.columns.now.parts.items c.args.at.node (union_form c.requires.union.class c.requires.union.members) (union_laid c.args.columns.now.nodes.items c.args.columns.now.parts.items (columns_form c.args.columns.now) c.requires.table c.args.at c.requires.union.steps c.requires.union.class c.requires.union.members c.requires.union.is_at)

pub bounds-slots-at : goal.bounds-slots-at
bounds-slots-at c =
    let w = union_within c.args.columns.now.nodes.items c.args.columns.now.parts.items (columns_form c.args.columns.now) c.requires.table c.args.at c.requires.union.steps c.requires.union.class c.requires.union.members c.requires.union.is_at in
    let s = c.requires.slots in
    let z = c.requires.table.few_cells in
    omega arith

pub overflow_add-at : goal.overflow_add-at
overflow_add-at c =
    let w = union_within c.args.columns.now.nodes.items c.args.columns.now.parts.items (columns_form c.args.columns.now) c.requires.table c.args.at c.requires.union.steps c.requires.union.class c.requires.union.members c.requires.union.is_at in
    let s = c.requires.slots in
    let z = c.requires.table.few_cells in
    omega arith

pub overflow_add-at-2 : goal.overflow_add-at-2
overflow_add-at-2 c =
    let w = union_within c.args.columns.now.nodes.items c.args.columns.now.parts.items (columns_form c.args.columns.now) c.requires.table c.args.at c.requires.union.steps c.requires.union.class c.requires.union.members c.requires.union.is_at in
    let d = union_cells c.args.columns.now.nodes.items c.args.columns.now.parts.items (columns_form c.args.columns.now) c.requires.table c.args.at c.requires.union.steps c.requires.union.class c.requires.union.members c.requires.union.is_at c.node-row.result c.node-row.ensures in
    let s = c.requires.slots in
    let z = c.requires.table.few_cells in
    omega arith

pub blank-requires : goal.blank-requires
blank-requires c =
    let w = union_within c.args.columns.now.nodes.items c.args.columns.now.parts.items (columns_form c.args.columns.now) c.requires.table c.args.at c.requires.union.steps c.requires.union.class c.requires.union.members c.requires.union.is_at in
    let d = union_cells c.args.columns.now.nodes.items c.args.columns.now.parts.items (columns_form c.args.columns.now) c.requires.table c.args.at c.requires.union.steps c.requires.union.class c.requires.union.members c.requires.union.is_at c.node-row.result c.node-row.ensures in
    let s = c.requires.slots in
    let z = c.requires.table.few_cells in
    let b = length-set c.args.slots.now c.args.at.slot (view.Active None) in
    (omega arith, omega arith)

pub returns : goal.returns
returns c path x ss k ms show leads =
    deactivates (columns_form c.args.columns.now) c.args.slots.now c.args.at c.find_part-found.result c.find_part-found.ensures path x ss k ms show leads c.node-row.result c.blank.new.slots
    (union_cells c.args.columns.now.nodes.items c.args.columns.now.parts.items (columns_form c.args.columns.now) c.requires.table c.args.at ss k ms leads c.node-row.result c.node-row.ensures) (not_false c.find_part-found.result.there c.if-not-found.false) c.blank.ensures
