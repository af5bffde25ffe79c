use Rattle.std.proofs.Common.{sym, subst, ◌∙◌, arith}
use Rattle.std.specs.List.{find}
use Rattle.cx_state.specs.Conditions.{enclosing}
use Rattle.cx_layout.specs.Forms.{Class}
use Rattle.cx_layout.specs.Described.{columns_form}
use Rattle.cx_slot_calls.proofs.Accesses.{at_within}
use Rattle.cx_slot_places.specs.Lives.{decides}
use Rattle.cx_slot_places.specs.Standings.{IsDecider, DecidesAt}
use Rattle.cx_slot_places.proofs.Living.{node_there}
use Rattle.cx_slot_places.proofs.Deciding.{under_before, decides_alone, derived_is, outer_here, outer_before, outer_is_class, decides_above, decides_here}
use Rattle.cx_slot_places.proofs.life.+decider_at.Goals as goal

pub node-row-requires : goal.node-row-requires
node-row-requires t c =
    let k = c.requires.class in
    node_there c.args.columns.now.nodes.items c.args.columns.now.parts.items (columns_form c.args.columns.now) c.requires.table k.steps c.args.at (Class k.class k.in_union k.bases k.members) k.is_at

pub derived-requires : goal.derived-requires
derived-requires t c = under_before (columns_form c.args.columns.now) c.args.at c.requires.here c.args.columns.now.nodes.items c.args.columns.now.parts.items c.requires.table c.requires.class c.node-row.result c.node-row.ensures c.args.opaque c.args.slots.now

pub deciding_here-requires : goal.deciding_here-requires
deciding_here-requires t c o =
    let k = c.requires.class in
    let w = at_within (columns_form c.args.columns.now) c.args.at (Class k.class k.in_union k.bases k.members) k.steps k.is_at (omega arith) in
    let e = c.requires.slots o in
    omega arith

pub deciding_here-requires-in-None-decider_at : goal.deciding_here-requires-in-None-decider_at
deciding_here-requires-in-None-decider_at t c o =
    let k = c.requires.class in
    let w = at_within (columns_form c.args.columns.now) c.args.at (Class k.class k.in_union k.bases k.members) k.steps k.is_at (omega arith) in
    let e = c.requires.slots o in
    omega arith

pub decider_at-requires : goal.decider_at-requires
decider_at-requires t c =
    let n = derived_is (columns_form c.args.columns.now) c.args.at c.requires.here c.args.columns.now.nodes.items c.args.columns.now.parts.items c.requires.table c.requires.class c.node-row.result c.node-row.ensures c.args.opaque c.args.slots.now c.in-Some.outer (sym c.derived.ensures ∙ c.in-Some.is) in
    let b = outer_before (columns_form c.args.columns.now) c.args.at c.requires.here c.args.columns.now.nodes.items c.args.columns.now.parts.items c.requires.table c.requires.class c.node-row.result c.node-row.ensures c.args.opaque c.args.slots.now c.in-Some.outer n in (
      omega arith,
      (
        c.requires.table,
        (
          c.requires.slots,
          (
            outer_here (columns_form c.args.columns.now) c.args.at c.requires.here c.args.columns.now.nodes.items c.args.columns.now.parts.items c.requires.table c.requires.class c.node-row.result c.node-row.ensures c.args.opaque c.args.slots.now c.in-Some.outer n,
            outer_is_class (columns_form c.args.columns.now) c.args.at c.requires.here c.args.columns.now.nodes.items c.args.columns.now.parts.items c.requires.table c.requires.class c.node-row.result c.node-row.ensures c.args.opaque c.args.slots.now c.in-Some.outer n,
          ),
        ),
      ),
    )

pub returns-in-None : goal.returns-in-None
returns-in-None t c =
    subst (DecidesAt (columns_form c.args.columns.now) c.args.opaque c.args.slots.now c.args.at) (sym c.deciding_here.ensures)
    (decides_alone (columns_form c.args.columns.now) c.args.at c.requires.here c.args.columns.now.nodes.items c.args.columns.now.parts.items c.requires.table c.requires.class c.node-row.result c.node-row.ensures c.args.opaque c.args.slots.now (sym c.derived.ensures ∙ c.in-None.is))

pub returns-in-None-decider_at : goal.returns-in-None-decider_at
returns-in-None-decider_at t c x ss leads seen =
    let n = derived_is (columns_form c.args.columns.now) c.args.at c.requires.here c.args.columns.now.nodes.items c.args.columns.now.parts.items c.requires.table c.requires.class c.node-row.result c.node-row.ensures c.args.opaque c.args.slots.now c.in-Some.outer (sym c.derived.ensures ∙ c.in-Some.is) in
    subst (IsDecider (columns_form c.args.columns.now) c.args.at.block (find (decides c.args.opaque x) (enclosing ss))) (sym c.deciding_here-in-None-decider_at.ensures)
    (decides_here (columns_form c.args.columns.now) c.args.at c.requires.here c.args.columns.now.nodes.items c.args.columns.now.parts.items c.requires.table c.requires.class c.node-row.result c.node-row.ensures c.args.opaque c.args.slots.now c.in-Some.outer n c.decider_at.result c.decider_at.ensures x ss leads seen c.in-None-decider_at.is)

pub returns-in-Some-decider_at : goal.returns-in-Some-decider_at
returns-in-Some-decider_at t c x ss leads seen =
    let n = derived_is (columns_form c.args.columns.now) c.args.at c.requires.here c.args.columns.now.nodes.items c.args.columns.now.parts.items c.requires.table c.requires.class c.node-row.result c.node-row.ensures c.args.opaque c.args.slots.now c.in-Some.outer (sym c.derived.ensures ∙ c.in-Some.is) in
    decides_above (columns_form c.args.columns.now) c.args.at c.requires.here c.args.columns.now.nodes.items c.args.columns.now.parts.items c.requires.table c.requires.class c.node-row.result c.node-row.ensures c.args.opaque c.args.slots.now c.in-Some.outer n c.decider_at.result c.decider_at.ensures x ss leads seen c.in-Some-decider_at.found c.in-Some-decider_at.is
