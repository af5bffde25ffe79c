use Rattle.std.proofs.Common.{◌≡◌, ◌+◌, true, arith, sym, subst, ◌∙◌, Some}
use Rattle.std.proofs.lemmas.List.{length-set}
use Rattle.cx_layout.specs.Described.{columns_form}
use Rattle.cx_slots.specs.declared.slot.SlotView.TheVariants as view
use Rattle.cx_state.specs.Steps.{activated}
use Rattle.cx_slots.specs.Fresh.{fresh}
use Rattle.cx_slot_calls.specs.Walks.{is_class_kind}
use Rattle.cx_layout.proofs.Filling.{get_within}
use Rattle.cx_slot_calls.proofs.Filling.{laid_there}
use Rattle.cx_slot_calls.proofs.Accesses.{not_true, not_false}
use Rattle.cx_slot_calls.proofs.Unions.{union_form, union_laid, union_cells, union_not, member_listed, member_there, member_is, some_cells, activates_not, activates}
use Rattle.cx_slot_calls.proofs.union.activate_at.Goals as goal

pub returns-then-not-found : goal.returns-then-not-found
returns-then-not-found c path x ss k ms a show leads e = union_not (columns_form c.args.columns.now) c.args.slots.now c.args.at c.find_part-found.result c.find_part-found.ensures path x ss k ms show leads (activated c.args.member (fresh c.args.phase a.form)) (not_true c.find_part-found.result.there c.if-not-found.true)

pub node-row-requires : goal.node-row-requires
node-row-requires c = laid_there c.args.columns.now.nodes.items c.args.columns.now.parts.items c.args.at.node (union_form c.requires.union.union.class c.requires.union.union.members) (union_laid c.args.columns.now.nodes.items c.args.columns.now.parts.items (columns_form c.args.columns.now) c.requires.table c.args.at c.requires.union.union.steps c.requires.union.union.class c.requires.union.union.members c.requires.union.union.is_at)

pub listed-node-requires : goal.listed-node-requires
listed-node-requires c = get_within c.args.columns.now.parts.items (c.node-row.result.members_from + c.args.member) (c.args.at.node + 1 + c.requires.union.part.node) (member_listed c.args.columns.now.nodes.items c.args.columns.now.parts.items (columns_form c.args.columns.now) c.requires.table c.args.at c.requires.union.union.steps c.requires.union.union.class c.requires.union.union.members c.requires.union.union.is_at c.node-row.result c.node-row.ensures c.args.member c.requires.union.part c.requires.union.is_part)

pub node-part-requires : goal.node-part-requires
node-part-requires c = member_there c.args.columns.now.nodes.items c.args.columns.now.parts.items (columns_form c.args.columns.now) c.requires.table c.args.at c.requires.union.union.steps c.requires.union.union.class c.requires.union.union.members c.requires.union.union.is_at c.node-row.result c.node-row.ensures c.args.member c.requires.union.part c.requires.union.is_part c.listed-node.result c.listed-node.ensures

pub overflow_add-start : goal.overflow_add-start
overflow_add-start c =
    let i = member_is c.args.columns.now.nodes.items c.args.columns.now.parts.items (columns_form c.args.columns.now) c.requires.table c.args.at c.requires.union.union.steps c.requires.union.union.class c.requires.union.union.members c.requires.union.union.is_at c.node-row.result c.node-row.ensures c.args.member c.requires.union.part c.requires.union.is_part c.listed-node.result c.node-part.result c.listed-node.ensures c.node-part.ensures in
    let a = i.start in
    let b = i.cells_are in
    let g = i.inside in
    let r = i.room in
    let s = c.requires.slots in
    let z = c.requires.table.few_cells in
    omega arith

pub stays-requires : goal.stays-requires
stays-requires c =
    let i = member_is c.args.columns.now.nodes.items c.args.columns.now.parts.items (columns_form c.args.columns.now) c.requires.table c.args.at c.requires.union.union.steps c.requires.union.union.class c.requires.union.union.members c.requires.union.union.is_at c.node-row.result c.node-row.ensures c.args.member c.requires.union.part c.requires.union.is_part c.listed-node.result c.node-part.result c.listed-node.ensures c.node-part.ensures in
    let a = i.start in
    let b = i.cells_are in
    let g = i.inside in
    let r = i.room in
    let s = c.requires.slots in
    let z = c.requires.table.few_cells in
    record { header = omega arith; first = λ q. let h = some_cells c.requires.union.part.form (subst (λ t. is_class_kind t ≡ true) (sym i.kind) q) in omega arith }

pub returns-then-stays : goal.returns-then-stays
returns-then-stays c path x ss k ms a show leads e =
    let i = (member_is c.args.columns.now.nodes.items c.args.columns.now.parts.items (columns_form c.args.columns.now) c.requires.table c.args.at ss k ms leads c.node-row.result c.node-row.ensures c.args.member a e c.listed-node.result c.node-part.result c.listed-node.ensures c.node-part.ensures) in
    activates_not (columns_form c.args.columns.now) c.args.slots.now c.args.at c.find_part-found.result c.find_part-found.ensures path x ss k ms show leads c.args.member c.args.phase a e (c.args.at.slot + c.node-part.result.under.offset) (let z = i.start in omega arith) c.node-part.result.kind i.kind (not_false c.find_part-found.result.there c.if-not-found.false) (sym c.stays.ensures ∙ c.if-stays.true)

pub bounds-slots-at : goal.bounds-slots-at
bounds-slots-at c =
    let i = member_is c.args.columns.now.nodes.items c.args.columns.now.parts.items (columns_form c.args.columns.now) c.requires.table c.args.at c.requires.union.union.steps c.requires.union.union.class c.requires.union.union.members c.requires.union.union.is_at c.node-row.result c.node-row.ensures c.args.member c.requires.union.part c.requires.union.is_part c.listed-node.result c.node-part.result c.listed-node.ensures c.node-part.ensures in
    let a = i.start in
    let b = i.cells_are in
    let g = i.inside in
    let r = i.room in
    let s = c.requires.slots in
    let z = c.requires.table.few_cells in
    omega arith

pub fill-requires : goal.fill-requires
fill-requires c =
    let i = member_is c.args.columns.now.nodes.items c.args.columns.now.parts.items (columns_form c.args.columns.now) c.requires.table c.args.at c.requires.union.union.steps c.requires.union.union.class c.requires.union.union.members c.requires.union.union.is_at c.node-row.result c.node-row.ensures c.args.member c.requires.union.part c.requires.union.is_part c.listed-node.result c.node-part.result c.listed-node.ensures c.node-part.ensures in
    let a = i.start in
    let b = i.cells_are in
    let g = i.inside in
    let r = i.room in
    let s = c.requires.slots in
    let z = c.requires.table.few_cells in
    let y = length-set c.args.slots.now c.args.at.slot (view.Active (Some c.args.member)) in
    let fr = c.requires.table.few_rows in
    let fn = c.requires.table.few_nodes in
    record { form = c.requires.union.part.form; laid = i.laid; within = omega arith; small = omega arith; few = omega arith }

pub overflow_add-start-2 : goal.overflow_add-start-2
overflow_add-start-2 c =
    let i = member_is c.args.columns.now.nodes.items c.args.columns.now.parts.items (columns_form c.args.columns.now) c.requires.table c.args.at c.requires.union.union.steps c.requires.union.union.class c.requires.union.union.members c.requires.union.union.is_at c.node-row.result c.node-row.ensures c.args.member c.requires.union.part c.requires.union.is_part c.listed-node.result c.node-part.result c.listed-node.ensures c.node-part.ensures in
    let a = i.start in
    let b = i.cells_are in
    let g = i.inside in
    let r = i.room in
    let s = c.requires.slots in
    let z = c.requires.table.few_cells in
    omega arith

pub overflow_add-at : goal.overflow_add-at
overflow_add-at c =
    let i = member_is c.args.columns.now.nodes.items c.args.columns.now.parts.items (columns_form c.args.columns.now) c.requires.table c.args.at c.requires.union.union.steps c.requires.union.union.class c.requires.union.union.members c.requires.union.union.is_at c.node-row.result c.node-row.ensures c.args.member c.requires.union.part c.requires.union.is_part c.listed-node.result c.node-part.result c.listed-node.ensures c.node-part.ensures in
    let a = i.start in
    let b = i.cells_are in
    let g = i.inside in
    let r = i.room in
    let s = c.requires.slots in
    let z = c.requires.table.few_cells in
    omega arith

pub blank-requires : goal.blank-requires
blank-requires c =
    let i = member_is c.args.columns.now.nodes.items c.args.columns.now.parts.items (columns_form c.args.columns.now) c.requires.table c.args.at c.requires.union.union.steps c.requires.union.union.class c.requires.union.union.members c.requires.union.union.is_at c.node-row.result c.node-row.ensures c.args.member c.requires.union.part c.requires.union.is_part c.listed-node.result c.node-part.result c.listed-node.ensures c.node-part.ensures in
    let a = i.start in
    let b = i.cells_are in
    let g = i.inside in
    let r = i.room in
    let s = c.requires.slots in
    let z = c.requires.table.few_cells in
    let y = length-set c.args.slots.now c.args.at.slot (view.Active (Some c.args.member)) in
    let v = c.fill.auto.slots in
    (omega arith, omega arith)

pub returns : goal.returns
returns c path x ss k ms a show leads e =
    let i = (member_is c.args.columns.now.nodes.items c.args.columns.now.parts.items (columns_form c.args.columns.now) c.requires.table c.args.at ss k ms leads c.node-row.result c.node-row.ensures c.args.member a e c.listed-node.result c.node-part.result c.listed-node.ensures c.node-part.ensures) in
    activates (columns_form c.args.columns.now) c.args.slots.now c.args.at c.find_part-found.result c.find_part-found.ensures path x ss k ms show leads c.args.member c.args.phase a e (c.args.at.slot + c.node-part.result.under.offset) (let z = i.start in omega arith)
    c.args.columns.now.nodes.items c.args.columns.now.parts.items c.listed-node.result c.node-part.result c.node-row.result c.fill.new.slots c.blank.new.slots i.laid i.kind i.cells_are
    (union_cells c.args.columns.now.nodes.items c.args.columns.now.parts.items (columns_form c.args.columns.now) c.requires.table c.args.at ss k ms leads c.node-row.result c.node-row.ensures) (not_false c.find_part-found.result.there c.if-not-found.false) (sym c.stays.ensures ∙ c.if-stays.false) c.fill.ensures c.blank.ensures
