use Rattle.std.proofs.Common.{◌*◌, ◌-◌, sym, subst, ◌∙◌, arith}
use Rattle.cx_layout.specs.Described.{columns_form}
use Rattle.cx_layout.specs.Places.{Leads}
use Rattle.cx_layout.specs.Walks.{Walks}
use Rattle.cx_layout.proofs.Pathing.{place_there, parent_there, few_before, before_end, end_in, end_leads, here_in, here_leads}
use Rattle.cx_layout.proofs.columns.Columns.path.Goals as goal

pub node-row-requires : goal.node-row-requires
node-row-requires c = place_there c.args.self.now.nodes.items c.args.self.now.parts.items (columns_form c.args.self.now) c.args.at c.requires.table c.requires.place

pub node-requires : goal.node-requires
node-requires c = parent_there c.args.self.now.nodes.items c.args.self.now.parts.items (columns_form c.args.self.now) c.args.at c.requires.table c.requires.place c.node-row.result c.node-row.ensures (sym c.is_past_elements.ensures ∙ c.if-is_past_elements.true)

pub overflow_mul-count : goal.overflow_mul-count
overflow_mul-count c = let few = few_before c.args.self.now.nodes.items c.args.self.now.parts.items (columns_form c.args.self.now) c.args.at c.requires.table c.requires.place c.node-row.result c.node-row.ensures (sym c.is_past_elements.ensures ∙ c.if-is_past_elements.true) c.node.result c.node.ensures c.count-count.result c.count-count.ensures in omega arith

pub overflow_sub-at : goal.overflow_sub-at
overflow_sub-at c = before_end c.args.self.now.nodes.items c.args.self.now.parts.items (columns_form c.args.self.now) c.args.at c.requires.table c.requires.place c.node-row.result c.node-row.ensures (sym c.is_past_elements.ensures ∙ c.if-is_past_elements.true) c.node.result c.node.ensures c.count-count.result c.count-count.ensures

pub write_steps-requires : goal.write_steps-requires
write_steps-requires c = end_in c.args.self.now.nodes.items c.args.self.now.parts.items (columns_form c.args.self.now) c.args.at c.requires.table c.requires.place c.node-row.result c.node-row.ensures (sym c.is_past_elements.ensures ∙ c.if-is_past_elements.true) c.node.result c.node.ensures c.count-count.result c.count-count.ensures

pub returns-then-is_past_elements : goal.returns-then-is_past_elements
returns-then-is_past_elements c =
    let w = subst (λ old. Walks (columns_form c.args.self.now) c.node-row.result.under.parent (c.args.at.slot - c.count-count.result * c.node-row.result.cells) c.in_ok-write_steps.field-0 old c.write_steps.new.steps) c.new-steps.ensures c.in_ok-write_steps.ensures in
    subst (λ us. Leads (columns_form c.args.self.now) us c.args.at) (sym c.in_ok-push.ensures.ok) (end_leads c.args.self.now.nodes.items c.args.self.now.parts.items (columns_form c.args.self.now) c.args.at c.requires.table c.requires.place c.node-row.result c.node-row.ensures (sym c.is_past_elements.ensures ∙ c.if-is_past_elements.true) c.node.result c.node.ensures c.count-count.result c.count-count.ensures c.in_ok-write_steps.field-0 c.write_steps.new.steps w)

pub write_steps-requires-2 : goal.write_steps-requires-2
write_steps-requires-2 c = here_in c.args.self.now.nodes.items c.args.self.now.parts.items (columns_form c.args.self.now) c.args.at c.requires.table c.requires.place c.node-row.result c.node-row.ensures (sym c.is_past_elements.ensures ∙ c.if-is_past_elements.false)

pub returns : goal.returns
returns c =
    let w = subst (λ old. Walks (columns_form c.args.self.now) c.args.at.node c.args.at.slot c.in_ok-write_steps-2.field-0 old c.write_steps-2.new.steps) c.new-steps.ensures c.in_ok-write_steps-2.ensures in
    here_leads c.args.self.now.nodes.items c.args.self.now.parts.items (columns_form c.args.self.now) c.args.at c.requires.table c.requires.place c.node-row.result c.node-row.ensures (sym c.is_past_elements.ensures ∙ c.if-is_past_elements.false) c.in_ok-write_steps-2.field-0 c.write_steps-2.new.steps w
