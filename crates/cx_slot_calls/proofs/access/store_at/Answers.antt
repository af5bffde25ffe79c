use Rattle.std.proofs.Common.{arith}
use Rattle.cx_layout.specs.Forms.{Leaf}
use Rattle.cx_layout.specs.Described.{columns_form}
use Rattle.cx_slot_calls.proofs.Accesses.{at_within, stores_not, stores_dead, stores_sealed, stores, not_true, not_false}
use Rattle.cx_slot_calls.proofs.access.store_at.Goals as goal

pub returns-then-not-found : goal.returns-then-not-found
returns-then-not-found c path x ss show leads = stores_not (columns_form c.args.columns.now) c.args.slots.now c.args.at c.find_part-found.result c.find_part-found.ensures path x ss show leads c.args.value c.args.sealed (not_true c.find_part-found.result.there c.if-not-found.true)

pub returns-then-found : goal.returns-then-found
returns-then-found c path x ss show leads = stores_dead (columns_form c.args.columns.now) c.args.slots.now c.args.at c.find_part-found.result c.find_part-found.ensures path x ss show leads c.args.value c.args.sealed (not_false c.find_part-found.result.there c.if-not-found.false) c.if-found.true

pub returns-then-sealed : goal.returns-then-sealed
returns-then-sealed c path x ss show leads = stores_sealed (columns_form c.args.columns.now) c.args.slots.now c.args.at c.find_part-found.result c.find_part-found.ensures path x ss show leads c.args.value c.args.sealed (not_false c.find_part-found.result.there c.if-not-found.false) c.if-found.false c.if-sealed.true

pub bounds-slots-at : goal.bounds-slots-at
bounds-slots-at c =
    let w = at_within (columns_form c.args.columns.now) c.args.at Leaf c.requires.scalar.0 c.requires.scalar.1 (omega arith) in
    let e = c.requires.slots in
    omega arith

pub returns : goal.returns
returns c path x ss show leads = stores (columns_form c.args.columns.now) c.args.slots.now c.args.at c.find_part-found.result c.find_part-found.ensures path x ss show leads c.args.value c.args.sealed (not_false c.find_part-found.result.there c.if-not-found.false) c.if-found.false c.if-sealed.false
