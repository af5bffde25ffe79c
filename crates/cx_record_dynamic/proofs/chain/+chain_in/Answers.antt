use Rattle.std.proofs.Common.{◌≡◌, ◌-◌, ◌&&◌, ◌||◌, is_some, if◌then◌else◌, true, Some, None, sym, ap, subst, ◌∙◌, arith}
use Rattle.std.specs.Option.{option_or}
use Rattle.cx_type_defs.proofs.Lists.{some_inj}
use Rattle.cx_type_defs.specs.declared.kind.TypeRow.{TypeRow}
use Rattle.cx_shapes.specs.Forms.{form_of, steps_at}
use Rattle.cx_shapes.specs.Contents.{tree_of}
use Rattle.cx_shapes.specs.Kinds.{IsForm}
use Rattle.cx_shapes.specs.Ways.{way_seen}
use Rattle.cx_records.specs.Records.{cells_of}
use Rattle.cx_records.proofs.Sealing.{row_there}
use Rattle.cx_record_dynamic.specs.Chains.{shown, IsChain}
use Rattle.cx_record_dynamic.proofs.Chains.{chain_here, chain_more}
use Rattle.cx_record_dynamic.proofs.chain.+chain_in.Goals as goal

pub returns-then-rest-eq0-clause-gives : goal.returns-then-rest-eq0-clause-gives
returns-then-rest-eq0-clause-gives t c = λ fs ss s.
    let f = form_of c.args.shape.now in
    let cs = cells_of fs c.args.view.contents.now in
    let decides = c.either-decides.ensures ∙ ap (λ b. c.args.view.opaque || b) (c.both.ensures ∙ ap (λ b. c.args.view.there && b) (c.deciding_at-alive.ensures (cs c.args.base) (sym (c.phase.ensures fs)))) in
    subst (λ x. IsChain c.args.types.now f c.args.row (shown c.args.view.there (tree_of f cs c.args.base)) c.args.view.opaque ss (record { bases = true; found = x })) (sym c.itself.ensures)
    (chain_here c.args.types.now f c.args.row cs c.args.base c.args.view.opaque c.args.view.there c.either-decides.result ss (sym (ap (steps_at f) c.if-rest-eq0.true) ∙ s) decides)

pub part_row-part-requires : goal.part_row-part-requires
part_row-part-requires t c =
    let x = row_there c.args.types.now (form_of c.args.shape.now) c.args.row (c.args.rest - 1) (way_seen c.in-Some.way) c.requires.form (sym c.in-Some.ensures.gives) in ap is_some x.1

pub chain_in-inner-requires : goal.chain_in-inner-requires
chain_in-inner-requires t c =
    let x = row_there c.args.types.now (form_of c.args.shape.now) c.args.row (c.args.rest - 1) (way_seen c.in-Some.way) c.requires.form (sym c.in-Some.ensures.gives) in
    let l = c.in-Some.ensures.leads in
    let a = l.behind in
    let b = l.from in
    let few = c.requires.few in
    let e : x.0 ≡ c.part_row-part.result = some_inj x.0 c.part_row-part.result (sym x.1 ∙ c.part_row-part.ensures) in
    (omega arith, (omega arith, (c.in-Some.ensures.small, subst (λ (r : TypeRow). IsForm c.args.types.now (form_of c.in-Some.way.shape.now) r.kind) e x.2)))

pub returns-in-Some-clause-gives : goal.returns-in-Some-clause-gives
returns-in-Some-clause-gives t c = λ fs ss s.
    let f = form_of c.args.shape.now in
    let cs = cells_of fs c.args.view.contents.now in
    let view = c.args.view in
    let bases = c.both-bases.result in
    let decides = c.either-decides.ensures ∙ ap (λ b. view.opaque || b) (c.both.ensures ∙ ap (λ b. view.there && b) (c.deciding_at-alive.ensures (cs c.args.base) (sym (c.phase.ensures fs)))) in
    let there = c.both-in-Some.ensures ∙ ap (λ b. view.there && b) (c.open_at-opens.ensures (cs c.args.base) (sym (c.member.ensures fs))) in
    let found = c.first_of.ensures ∙ ap (λ x. option_or x c.counted_on.result) (c.itself-here.ensures ∙ ap (λ b. if b then Some (record { number = 0; row = c.args.row }) else None) c.both-in-Some-2.ensures)
    ∙ ap (option_or (if bases && c.either-decides.result then Some (record { number = 0; row = c.args.row }) else None)) c.counted_on.ensures in
    chain_more c.args.types.now f c.args.row c.part_row-part.result cs c.args.base c.args.rest (way_seen c.in-Some.way) ss view.opaque view.there c.both-in-Some.result bases c.either-decides.result c.chain_in-inner.result
    (omega arith) (sym c.in-Some.ensures.gives) c.part_row-part.ensures s there (c.chain_in-inner.ensures.gives fs) (c.both-bases.ensures ∙ ap (λ b. b && c.chain_in-inner.result.bases) c.is_base.ensures) decides c.first_of.result found
