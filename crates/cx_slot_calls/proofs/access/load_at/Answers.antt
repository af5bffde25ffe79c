use Rattle.std.proofs.Common.{arith, ap, ◌∙◌}
use Rattle.cx_layout.specs.Forms.{Leaf}
use Rattle.cx_layout.specs.Described.{columns_form}
use Rattle.cx_store.specs.Stores.{result_seen, seen}
use Rattle.cx_slot_calls.proofs.Accesses.{at_within, loads_not, loads_dead, loads, not_true, not_false}
use Rattle.cx_slot_calls.proofs.access.load_at.Goals as goal

pub returns-then-not-found : goal.returns-then-not-found
returns-then-not-found c path x ss show leads = loads_not (columns_form c.args.columns.now) c.args.slots.now c.args.at c.find_part-found.result c.find_part-found.ensures path x ss show leads (not_true c.find_part-found.result.there c.if-not-found.true)

pub returns-then-found : goal.returns-then-found
returns-then-found c path x ss show leads = loads_dead (columns_form c.args.columns.now) c.args.slots.now c.args.at c.find_part-found.result c.find_part-found.ensures path x ss show leads (not_false c.find_part-found.result.there c.if-not-found.false) c.if-found.true

pub value_at-requires : goal.value_at-requires
value_at-requires c =
    let w = at_within (columns_form c.args.columns.now) c.args.at Leaf c.requires.scalar.0 c.requires.scalar.1 (omega arith) in
    let e = c.requires.slots in
    omega arith

pub returns : goal.returns
returns c path x ss show leads = ap (result_seen (seen path)) c.value_at.ensures ∙ loads (columns_form c.args.columns.now) c.args.slots.now c.args.at c.find_part-found.result c.find_part-found.ensures path x ss show leads (not_false c.find_part-found.result.there c.if-not-found.false) c.if-found.false
