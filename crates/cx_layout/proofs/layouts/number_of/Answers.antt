use Rattle.std.proofs.Common.{◌≤◌, ◌<◌, length, sym, ◌∙◌, arith}
use Rattle.cx_layout.specs.Described.{is_for}
use Rattle.cx_layout.proofs.Wholes.{number_found, number_none, get_read, no_more}
use Rattle.cx_layout.proofs.layouts.number_of.Goals as goal

pub returns-then-is_for : goal.returns-then-is_for
returns-then-is_for c =
    let l : c.loop-number.number < length c.args.descriptors.now = omega arith in
    sym (number_found c.args.ty c.args.count c.args.descriptors.now c.loop-number.number c.index-descriptors-number.result (get_read c.args.descriptors.now c.loop-number.number c.index-descriptors-number.result l c.index-descriptors-number.is) (sym c.is_for.ensures ∙ c.if-is_for.true) c.loop-number.invariant)

pub loop-number-preserved : goal.loop-number-preserved
loop-number-preserved c =
    let l : c.loop-number.number < length c.args.descriptors.now = omega arith in
    no_more (is_for c.args.ty c.args.count) c.args.descriptors.now c.loop-number.number c.index-descriptors-number.result c.loop-number.invariant (get_read c.args.descriptors.now c.loop-number.number c.index-descriptors-number.result l c.index-descriptors-number.is) (sym c.is_for.ensures ∙ c.if-is_for.false)

pub returns : goal.returns
returns c =
    let l : length c.args.descriptors.now ≤ c.loop-number.number = omega arith in
    sym (number_none c.args.ty c.args.count c.args.descriptors.now (λ k d m e. c.loop-number.invariant k d (omega arith) e))
