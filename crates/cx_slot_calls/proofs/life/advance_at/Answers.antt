use Rattle.std.proofs.Common.{false, arith, sym, ◌∙◌}
use Rattle.cx_layout.specs.Forms.{Class}
use Rattle.cx_layout.specs.Described.{columns_form}
use Rattle.cx_slot_calls.proofs.Accesses.{at_within, not_true, not_false}
use Rattle.cx_slot_calls.proofs.Lives.{advances_not, advances_dead, advances_other, advances_on}
use Rattle.cx_slot_calls.proofs.life.advance_at.Goals as goal

pub returns-then-not-found : goal.returns-then-not-found
returns-then-not-found c path x ss k bs ms show leads = advances_not (columns_form c.args.columns.now) c.args.slots.now c.args.at c.find_part-found.result c.find_part-found.ensures path x ss k bs ms show leads c.args.to (not_true c.find_part-found.result.there c.if-not-found.true)

pub returns-then-found : goal.returns-then-found
returns-then-found c path x ss k bs ms show leads = advances_dead (columns_form c.args.columns.now) c.args.slots.now c.args.at c.find_part-found.result c.find_part-found.ensures path x ss k bs ms show leads c.args.to (not_false c.find_part-found.result.there c.if-not-found.false) c.if-found.true

pub is_before-requires : goal.is_before-requires
is_before-requires c =
    let w = at_within (columns_form c.args.columns.now) c.args.at (Class c.requires.class.class false c.requires.class.bases c.requires.class.members) c.requires.class.steps c.requires.class.is_at (omega arith) in
    let e = c.requires.slots in
    omega arith

pub returns-then-not-is_before : goal.returns-then-not-is_before
returns-then-not-is_before c path x ss k bs ms show leads = advances_other (columns_form c.args.columns.now) c.args.slots.now c.args.at c.find_part-found.result c.find_part-found.ensures path x ss k bs ms show leads c.args.to (not_false c.find_part-found.result.there c.if-not-found.false) c.if-found.false (sym c.is_before.ensures ∙ c.if-not-is_before.true)

pub bounds-slots-at : goal.bounds-slots-at
bounds-slots-at c =
    let w = at_within (columns_form c.args.columns.now) c.args.at (Class c.requires.class.class false c.requires.class.bases c.requires.class.members) c.requires.class.steps c.requires.class.is_at (omega arith) in
    let e = c.requires.slots in
    omega arith

pub returns : goal.returns
returns c path x ss k bs ms show leads = advances_on (columns_form c.args.columns.now) c.args.slots.now c.args.at c.find_part-found.result c.find_part-found.ensures path x ss k bs ms show leads c.args.to (not_false c.find_part-found.result.there c.if-not-found.false) c.if-found.false (sym c.is_before.ensures ∙ c.if-not-is_before.false)
