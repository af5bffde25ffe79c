use Rattle.std.proofs.Common.{true, Ok, ap, ◌∙◌, arith}
use Rattle.cx_layout.specs.Forms.{Class, End}
use Rattle.cx_layout.specs.Described.{columns_form}
use Rattle.cx_slot_calls.proofs.Accesses.{at_within, not_true, not_false}
use Rattle.cx_slot_places.proofs.Living.{actives_not, actives_dead, actives}
use Rattle.cx_slot_places.proofs.life.active_at.Goals as goal

pub returns-then-not-found : goal.returns-then-not-found
returns-then-not-found c path x ss k ms show leads = actives_not c.args.columns.now.nodes.items c.args.columns.now.parts.items (columns_form c.args.columns.now) c.requires.table c.args.slots.now c.args.at c.find_part-found.result c.find_part-found.ensures path x ss k ms show leads (not_true c.find_part-found.result.there c.if-not-found.true)

pub returns-then-found : goal.returns-then-found
returns-then-found c path x ss k ms show leads = actives_dead c.args.columns.now.nodes.items c.args.columns.now.parts.items (columns_form c.args.columns.now) c.requires.table c.args.slots.now c.args.at c.find_part-found.result c.find_part-found.ensures path x ss k ms show leads (not_false c.find_part-found.result.there c.if-not-found.false) c.if-found.true

pub shown_member-requires : goal.shown_member-requires
shown_member-requires c =
    let u = Class c.requires.union.class true End c.requires.union.members in
    let w = at_within (columns_form c.args.columns.now) c.args.at u c.requires.union.steps c.requires.union.is_at (omega arith) in
    let e = c.requires.slots in
    omega arith

pub returns : goal.returns
returns c path x ss k ms show leads =
    ap Ok c.shown_member.ensures
    ∙ actives c.args.columns.now.nodes.items c.args.columns.now.parts.items (columns_form c.args.columns.now) c.requires.table c.args.slots.now c.args.at c.find_part-found.result c.find_part-found.ensures path x ss k ms show leads (not_false c.find_part-found.result.there c.if-not-found.false) c.if-found.false
