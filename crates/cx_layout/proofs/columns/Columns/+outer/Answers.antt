use Rattle.std.proofs.Common.{◌≤◌, refl, sym, ◌∙◌, arith}
use Rattle.cx_layout.specs.Described.{columns_form}
use Rattle.cx_layout.proofs.Walking.{in_there}
use Rattle.cx_layout.proofs.Enclosing.{place_in, here_encloses, whole_encloses, no_base_encloses, parent_place, parent_encloses}
use Rattle.cx_layout.proofs.columns.Columns.+outer.Goals as goal

pub node-row-requires : goal.node-row-requires
node-row-requires t c = in_there c.args.self.now.nodes.items c.args.self.now.parts.items (columns_form c.args.self.now) c.args.at.node c.args.at.slot (place_in c.args.self.now.nodes.items c.args.self.now.parts.items (columns_form c.args.self.now) c.args.at c.args.class c.requires.table c.requires.here c.requires.place)

pub returns-then-is_class : goal.returns-then-is_class
returns-then-is_class t c = here_encloses c.args.self.now.nodes.items c.args.self.now.parts.items (columns_form c.args.self.now) c.args.at c.args.class c.requires.table c.requires.here c.requires.place c.node-row.result c.node-row.ensures (sym c.is_class.ensures ∙ c.if-is_class.true)

pub returns-then-at-eq0 : goal.returns-then-at-eq0
returns-then-at-eq0 t c = whole_encloses c.args.self.now.nodes.items c.args.self.now.parts.items (columns_form c.args.self.now) c.args.at c.args.class c.requires.table c.requires.here c.requires.place c.node-row.result c.node-row.ensures (sym c.is_class.ensures ∙ c.if-is_class.false) c.if-at-eq0.true

pub overflow_sub-outer : goal.overflow_sub-outer
overflow_sub-outer t c =
    let l : 1 ≤ c.args.at.node = omega arith in
    (parent_place c.args.self.now.nodes.items c.args.self.now.parts.items (columns_form c.args.self.now) c.args.at c.args.class c.requires.table c.requires.here c.requires.place c.node-row.result c.node-row.ensures c.in-Base.field-0 l c.in-Base.is (sym c.is_class.ensures ∙ c.if-is_class.false)).0

pub outer-requires : goal.outer-requires
outer-requires t c =
    let l : 1 ≤ c.args.at.node = omega arith in
    let p = parent_place c.args.self.now.nodes.items c.args.self.now.parts.items (columns_form c.args.self.now) c.args.at c.args.class c.requires.table c.requires.here c.requires.place c.node-row.result c.node-row.ensures c.in-Base.field-0 l c.in-Base.is (sym c.is_class.ensures ∙ c.if-is_class.false) in
    let b = p.1 in
    (omega arith, (c.requires.table, (refl, p.2)))

pub returns-in-Base : goal.returns-in-Base
returns-in-Base t c =
    let l : 1 ≤ c.args.at.node = omega arith in
    parent_encloses c.args.self.now.nodes.items c.args.self.now.parts.items (columns_form c.args.self.now) c.args.at c.args.class c.requires.table c.requires.here c.requires.place c.node-row.result c.node-row.ensures c.in-Base.field-0 c.outer.result l c.in-Base.is (sym c.is_class.ensures ∙ c.if-is_class.false) c.outer.ensures

pub returns-in_default : goal.returns-in_default
returns-in_default t c =
    let l : 1 ≤ c.args.at.node = omega arith in
    no_base_encloses c.args.self.now.nodes.items c.args.self.now.parts.items (columns_form c.args.self.now) c.args.at c.args.class c.requires.table c.requires.here c.requires.place c.node-row.result c.node-row.ensures (sym c.is_class.ensures ∙ c.if-is_class.false) l c.in_default.not-Base
