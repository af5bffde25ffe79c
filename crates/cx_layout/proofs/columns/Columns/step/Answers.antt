use Rattle.std.proofs.Common.{refl, sym, subst}
use Rattle.cx_type_defs.specs.declared.ids.Step.TheVariants as step
use Rattle.cx_layout.specs.Places.{HasStep}
use Rattle.cx_layout.specs.Stepping.{LeadsOn}
use Rattle.cx_layout.specs.Described.{columns_form}
use Rattle.cx_layout.proofs.Stepping.{node_there, part_room, part_on, element_room, element_on}
use Rattle.cx_layout.proofs.columns.Columns.step.Goals as goal

pub node-row-requires : goal.node-row-requires
node-row-requires c = node_there c.args.self.now.nodes.items c.args.self.now.parts.items (columns_form c.args.self.now) c.args.at c.args.step c.requires.table c.requires.here c.requires.step

pub part-requires : goal.part-requires
part-requires c =
    let h = subst (HasStep (columns_form c.args.self.now) c.args.at) c.in-Base.is c.requires.step in
    part_room c.args.self.now.nodes.items c.args.self.now.parts.items (columns_form c.args.self.now) c.args.at (step.Base c.in-Base.index) c.requires.table c.requires.here h c.node-row.result c.node-row.result.bases_from c.in-Base.index tt c.node-row.ensures refl

pub part-requires-in-Field : goal.part-requires-in-Field
part-requires-in-Field c =
    let h = subst (HasStep (columns_form c.args.self.now) c.args.at) c.in-Field.is c.requires.step in
    part_room c.args.self.now.nodes.items c.args.self.now.parts.items (columns_form c.args.self.now) c.args.at (step.Field c.in-Field.index) c.requires.table c.requires.here h c.node-row.result c.node-row.result.members_from c.in-Field.index tt c.node-row.ensures refl

pub element-requires : goal.element-requires
element-requires c =
    let h = subst (HasStep (columns_form c.args.self.now) c.args.at) c.in-Elem.is c.requires.step in
    element_room c.args.self.now.nodes.items c.args.self.now.parts.items (columns_form c.args.self.now) c.args.at c.in-Elem.index c.requires.table c.requires.here h

pub returns-in-Base : goal.returns-in-Base
returns-in-Base c =
    let h = subst (HasStep (columns_form c.args.self.now) c.args.at) c.in-Base.is c.requires.step in
    subst (λ s. LeadsOn (columns_form c.args.self.now) c.args.at s c.part.result) (sym c.in-Base.is)
    (part_on c.args.self.now.nodes.items c.args.self.now.parts.items (columns_form c.args.self.now) c.args.at (step.Base c.in-Base.index) c.requires.table c.requires.here h c.node-row.result c.node-row.result.bases_from c.in-Base.index tt c.node-row.ensures refl c.part.result c.part.ensures)

pub returns-in-Field : goal.returns-in-Field
returns-in-Field c =
    let h = subst (HasStep (columns_form c.args.self.now) c.args.at) c.in-Field.is c.requires.step in
    subst (λ s. LeadsOn (columns_form c.args.self.now) c.args.at s c.part-in-Field.result) (sym c.in-Field.is)
    (part_on c.args.self.now.nodes.items c.args.self.now.parts.items (columns_form c.args.self.now) c.args.at (step.Field c.in-Field.index) c.requires.table c.requires.here h c.node-row.result c.node-row.result.members_from c.in-Field.index tt c.node-row.ensures refl c.part-in-Field.result c.part-in-Field.ensures)

pub returns-in-Elem : goal.returns-in-Elem
returns-in-Elem c =
    let h = subst (HasStep (columns_form c.args.self.now) c.args.at) c.in-Elem.is c.requires.step in
    subst (λ s. LeadsOn (columns_form c.args.self.now) c.args.at s c.element.result) (sym c.in-Elem.is)
    (element_on c.args.self.now.nodes.items c.args.self.now.parts.items (columns_form c.args.self.now) c.args.at c.in-Elem.index c.requires.table c.requires.here h c.node-row.result c.element.result c.node-row.ensures c.element.ensures)
