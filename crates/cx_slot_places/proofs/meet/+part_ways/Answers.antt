use Rattle.std.proofs.Common.{◌≡◌, ◌≤◌, sym, ap, subst, ◌∙◌, arith}
use Rattle.cx_layout.specs.Described.{columns_form}
use Rattle.cx_layout.specs.Walks.{IsIn}
use Rattle.cx_layout.proofs.Walking.{in_there, in_parent, parent_before}
use Rattle.cx_slot_places.specs.declared.meet.Meeting.{Meeting}
use Rattle.cx_slot_places.specs.Walks.{Meets, CanGoOn, both_on, gone_on, turned}
use Rattle.cx_slot_places.proofs.Meeting.{whole_meets, turns, may_go_on, goes_on, both_go_on, first_may_go_on, second_may_go_on}
use Rattle.cx_slot_places.proofs.meet.+part_ways.Goals as goal

pub node-row-requires : goal.node-row-requires
node-row-requires t c = in_there c.args.columns.now.nodes.items c.args.columns.now.parts.items (columns_form c.args.columns.now) c.args.b c.args.other c.requires.second

pub part_ways-outer-requires : goal.part_ways-outer-requires
part_ways-outer-requires t c =
    let l : 1 ≤ c.args.b = omega arith in
    let b = parent_before c.args.columns.now.nodes.items c.args.columns.now.parts.items (columns_form c.args.columns.now) c.args.b c.args.other c.requires.second l c.node-row.result c.node-row.ensures in
    (omega arith, (c.requires.first, in_parent c.args.columns.now.nodes.items c.args.columns.now.parts.items (columns_form c.args.columns.now) c.args.b c.args.other c.requires.second l c.node-row.result c.node-row.ensures))

pub node-above-requires : goal.node-above-requires
node-above-requires t c =
    let l : 1 ≤ c.args.b = omega arith in
    in_there c.args.columns.now.nodes.items c.args.columns.now.parts.items (columns_form c.args.columns.now) c.node-row.result.under.parent c.args.other
    (in_parent c.args.columns.now.nodes.items c.args.columns.now.parts.items (columns_form c.args.columns.now) c.args.b c.args.other c.requires.second l c.node-row.result c.node-row.ensures)

pub gone_on-requires : goal.gone_on-requires
gone_on-requires t c =
    let l : 1 ≤ c.args.b = omega arith in
    let f = columns_form c.args.columns.now in
    subst (λ (m : Meeting). CanGoOn c.node-row.result m c.args.other) (sym c.turned.ensures)
    (may_go_on c.args.columns.now.nodes.items c.args.columns.now.parts.items f c.requires.second.described c.args.b c.args.other l c.node-row.result c.node-row.ensures c.node-above.result c.node-above.ensures c.args.a c.args.slot (turned c.part_ways-outer.result)
    (turns f c.args.a c.args.slot c.node-row.result.under.parent c.args.other c.part_ways-outer.result c.part_ways-outer.ensures) c.requires.second c.requires.first)

pub returns-then-a-b : goal.returns-then-a-b
returns-then-a-b t c =
    let l : 1 ≤ c.args.b = omega arith in
    let f = columns_form c.args.columns.now in
    subst (Meets f c.args.a c.args.slot c.args.b c.args.other) (sym (c.turned-then-a-b.ensures ∙ ap turned c.gone_on.ensures))
    (turns f c.args.b c.args.other c.args.a c.args.slot (gone_on c.node-above.result.kind c.node-row.result c.turned.result c.args.other)
    (goes_on c.args.columns.now.nodes.items c.args.columns.now.parts.items f c.requires.second.described c.args.b c.args.other l c.node-row.result c.node-row.ensures c.node-above.result c.node-above.ensures c.args.a c.args.slot c.turned.result
    (subst (Meets f c.node-row.result.under.parent c.args.other c.args.a c.args.slot) (sym c.turned.ensures) (turns f c.args.a c.args.slot c.node-row.result.under.parent c.args.other c.part_ways-outer.result c.part_ways-outer.ensures)) c.if-a-b.true))

pub returns-then-a-eq0 : goal.returns-then-a-eq0
returns-then-a-eq0 t c = whole_meets (columns_form c.args.columns.now) c.args.a c.args.slot c.args.b c.args.other c.if-a-eq0.true (omega arith)

pub node-row-requires-2 : goal.node-row-requires-2
node-row-requires-2 t c = in_there c.args.columns.now.nodes.items c.args.columns.now.parts.items (columns_form c.args.columns.now) c.args.a c.args.slot c.requires.first

pub node-above-requires-2 : goal.node-above-requires-2
node-above-requires-2 t c =
    let l : 1 ≤ c.args.a = omega arith in
    in_there c.args.columns.now.nodes.items c.args.columns.now.parts.items (columns_form c.args.columns.now) c.node-row-2.result.under.parent c.args.slot
    (in_parent c.args.columns.now.nodes.items c.args.columns.now.parts.items (columns_form c.args.columns.now) c.args.a c.args.slot c.requires.first l c.node-row-2.result c.node-row-2.ensures)

pub part_ways-outer-requires-then-b-a : goal.part_ways-outer-requires-then-b-a
part_ways-outer-requires-then-b-a t c =
    let l : 1 ≤ c.args.a = omega arith in
    let b = parent_before c.args.columns.now.nodes.items c.args.columns.now.parts.items (columns_form c.args.columns.now) c.args.a c.args.slot c.requires.first l c.node-row-2.result c.node-row-2.ensures in
    (omega arith, (in_parent c.args.columns.now.nodes.items c.args.columns.now.parts.items (columns_form c.args.columns.now) c.args.a c.args.slot c.requires.first l c.node-row-2.result c.node-row-2.ensures, c.requires.second))

pub gone_on-requires-then-b-a : goal.gone_on-requires-then-b-a
gone_on-requires-then-b-a t c =
    let l : 1 ≤ c.args.a = omega arith in
    may_go_on c.args.columns.now.nodes.items c.args.columns.now.parts.items (columns_form c.args.columns.now) c.requires.first.described c.args.a c.args.slot l c.node-row-2.result c.node-row-2.ensures c.node-above-2.result c.node-above-2.ensures c.args.b c.args.other c.part_ways-outer-then-b-a.result c.part_ways-outer-then-b-a.ensures c.requires.first c.requires.second

pub returns-then-b-a : goal.returns-then-b-a
returns-then-b-a t c =
    let l : 1 ≤ c.args.a = omega arith in
    subst (Meets (columns_form c.args.columns.now) c.args.a c.args.slot c.args.b c.args.other) (sym c.gone_on-then-b-a.ensures)
    (goes_on c.args.columns.now.nodes.items c.args.columns.now.parts.items (columns_form c.args.columns.now) c.requires.first.described c.args.a c.args.slot l c.node-row-2.result c.node-row-2.ensures c.node-above-2.result c.node-above-2.ensures c.args.b c.args.other c.part_ways-outer-then-b-a.result c.part_ways-outer-then-b-a.ensures c.if-b-a.true)

pub part_ways-outer-requires-2 : goal.part_ways-outer-requires-2
part_ways-outer-requires-2 t c =
    let l : 1 ≤ c.args.a = omega arith in
    let ns = c.args.columns.now.nodes.items in
    let ks = c.args.columns.now.parts.items in
    let f = columns_form c.args.columns.now in
    let e : c.args.b ≡ c.args.a = omega arith in
    let b = parent_before ns ks f c.args.a c.args.slot c.requires.first l c.node-row-2.result c.node-row-2.ensures in
    (omega arith, (in_parent ns ks f c.args.a c.args.slot c.requires.first l c.node-row-2.result c.node-row-2.ensures, in_parent ns ks f c.args.a c.args.other (subst (λ n. IsIn ns ks f n c.args.other) e c.requires.second) l c.node-row-2.result c.node-row-2.ensures))

pub both_on-requires-clause-first : goal.both_on-requires-clause-first
both_on-requires-clause-first t c =
    let l : 1 ≤ c.args.a = omega arith in
    let ns = c.args.columns.now.nodes.items in
    let ks = c.args.columns.now.parts.items in
    let f = columns_form c.args.columns.now in
    let e : c.args.b ≡ c.args.a = omega arith in
    first_may_go_on ns ks f c.requires.first.described c.args.a c.args.slot l c.node-row-2.result c.node-row-2.ensures c.node-above-2.result c.node-above-2.ensures c.args.other c.part_ways-outer-2.result c.part_ways-outer-2.ensures c.requires.first (subst (λ n. IsIn ns ks f n c.args.other) e c.requires.second)

pub both_on-requires-clause-second : goal.both_on-requires-clause-second
both_on-requires-clause-second t c =
    let l : 1 ≤ c.args.a = omega arith in
    let ns = c.args.columns.now.nodes.items in
    let ks = c.args.columns.now.parts.items in
    let f = columns_form c.args.columns.now in
    let e : c.args.b ≡ c.args.a = omega arith in
    second_may_go_on ns ks f c.requires.first.described c.args.a c.args.slot l c.node-row-2.result c.node-row-2.ensures c.node-above-2.result c.node-above-2.ensures c.args.other c.part_ways-outer-2.result c.part_ways-outer-2.ensures c.requires.first (subst (λ n. IsIn ns ks f n c.args.other) e c.requires.second)

pub returns : goal.returns
returns t c =
    let l : 1 ≤ c.args.a = omega arith in
    let f = columns_form c.args.columns.now in
    let e : c.args.a ≡ c.args.b = omega arith in
    subst (Meets f c.args.a c.args.slot c.args.b c.args.other) (sym c.both_on.ensures)
    (subst (λ n. Meets f c.args.a c.args.slot n c.args.other (both_on c.node-above-2.result.kind c.node-row-2.result c.part_ways-outer-2.result c.args.slot c.args.other)) e
    (both_go_on c.args.columns.now.nodes.items c.args.columns.now.parts.items f c.requires.first.described c.args.a c.args.slot l c.node-row-2.result c.node-row-2.ensures c.node-above-2.result c.node-above-2.ensures c.args.other c.part_ways-outer-2.result c.part_ways-outer-2.ensures))
