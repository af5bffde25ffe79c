use Rattle.std.proofs.Common.{sym, ◌∙◌}
use Rattle.cx_layout.specs.Described.{columns_form}
use Rattle.cx_slot_calls.proofs.Accesses.{not_true, not_false}
use Rattle.cx_slot_places.proofs.Living.{place_in, node_there, class_header, calls_not, calls_dead_on, calls_here_dead, calls}
use Rattle.cx_slot_places.proofs.life.call_at.Goals as goal
use Rattle.cx_slot_places.proofs.life.call_at.Goals.{then-found-via-then-found, then-found-via-else-found+then-is_dead}

pub find_part-found-requires-clause-place : goal.find_part-found-requires-clause-place
find_part-found-requires-clause-place c = place_in c.args.columns.now.nodes.items c.args.columns.now.parts.items (columns_form c.args.columns.now) c.requires.table c.requires.place.1.0 c.args.at c.requires.place.0 c.requires.place.1.1

pub returns-then-not-found : goal.returns-then-not-found
returns-then-not-found c path x ss u show leads = calls_not c.args.columns.now.nodes.items c.args.columns.now.parts.items (columns_form c.args.columns.now) c.requires.table c.args.slots.now c.args.at c.find_part-found.result c.find_part-found.ensures path x ss u show leads (not_true c.find_part-found.result.there c.if-not-found.true)

pub node-requires : goal.node-requires
node-requires c = node_there c.args.columns.now.nodes.items c.args.columns.now.parts.items (columns_form c.args.columns.now) c.requires.table c.requires.place.1.0 c.args.at c.requires.place.0 c.requires.place.1.1

pub is_dead-requires : goal.is_dead-requires
is_dead-requires c = class_header c.args.columns.now.nodes.items c.args.columns.now.parts.items (columns_form c.args.columns.now) c.requires.table c.requires.place.1.0 c.args.at c.requires.place.0 c.requires.place.1.1 c.args.slots.now c.requires.slots c.node.result c.node.ensures

pub returns-then-found : goal.returns-then-found
returns-then-found c path x ss u show leads =
    let there = not_false c.find_part-found.result.there c.if-not-found.false in
    elim c.then-found.branch [
      | then-found-via-then-found w ↦ calls_dead_on c.args.columns.now.nodes.items c.args.columns.now.parts.items (columns_form c.args.columns.now) c.requires.table c.args.slots.now c.args.at c.find_part-found.result c.find_part-found.ensures path x ss u show leads there w.if-found.true
      | then-found-via-else-found+then-is_dead w ↦ calls_here_dead c.args.columns.now.nodes.items c.args.columns.now.parts.items (columns_form c.args.columns.now) c.requires.table c.args.slots.now c.args.at c.find_part-found.result c.find_part-found.ensures path x ss u show leads there w.node.result w.node.ensures (sym w.is_dead.ensures ∙ w.if-is_dead.true)
    ]

pub returns : goal.returns
returns c path x ss u show leads =
    let there = not_false c.find_part-found.result.there c.if-not-found.false in
    calls c.args.columns.now.nodes.items c.args.columns.now.parts.items (columns_form c.args.columns.now) c.requires.table c.args.slots.now c.args.at c.find_part-found.result c.find_part-found.ensures path x ss u show leads there c.node.result c.node.ensures c.if-found.false (sym c.is_dead.ensures ∙ c.if-is_dead.false)
