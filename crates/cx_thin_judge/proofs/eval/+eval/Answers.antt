use Rattle.std.proofs.Common.{Ok, Err, Some, sym, ◌∙◌, ap}
use Rattle.cx_thin_judge.proofs.Nodes.{unary_stops, chain_first, chain_stops, meets_third, no_condition, chain_last, joins_whole, joins_right, joins_nothing, right_stops, is_there}
use Rattle.cx_thin_judge.proofs.Loops.{carried, step_stops, step_on, step_end}
use Rattle.cx_thin_judge.proofs.eval.+eval.Goals as goal

pub chained-returns-in-Err : goal.chained-returns-in-Err
chained-returns-in-Err t c = λ i. let k = c.loop-step.invariant i in step_stops c.args.judge.now c.args.program.now c.args.judged c.args.first c.loop-step.left c.args.steps.now c.loop-step.step-index c.step-item.result c.in-Err.stop k.1 c.loop-step-test.true c.step-item.is ((rw c.in-Err.is at c.joined.ensures) k.0)

pub chained-loop-step-preserved : goal.chained-loop-step-preserved
chained-loop-step-preserved t c = λ i. let k = c.loop-step.invariant i in let m = (rw c.in-Ok.is at c.joined.ensures) k.0 in
    (is_there c.args.judge.now c.args.program.now c.args.judged _ c.in-Ok.left m, step_on c.args.judge.now c.args.program.now c.args.judged c.args.first c.loop-step.left c.in-Ok.left c.args.steps.now c.loop-step.step-index c.step-item.result k.1 c.loop-step-test.true c.step-item.is m)

pub chained-returns : goal.chained-returns
chained-returns t c = λ i. let k = c.loop-step.invariant i in step_end c.args.judge.now c.args.program.now c.args.judged c.args.first c.loop-step.left c.args.steps.now c.loop-step.step-index k.1 c.loop-step-test.false k.0

pub eval-returns-in-Ok-chained : goal.eval-returns-in-Ok-chained
eval-returns-in-Ok-chained t c =
    let first = rw c.in-Ok-eval-2.is at c.eval-in-Chain.ensures in
    let steps = (rw (c.in-Ok-chained.is, c.as_slice.ensures) at c.chained.ensures) (is_there c.args.judge.now c.args.program.now c.args.judged _ c.in-Ok-eval-2.left first) in
    let last = (rw c.get-in-Ok-chained.ensures at c.joined.ensures) (is_there c.args.judge.now c.args.program.now c.args.judged _ c.in-Ok-chained.left steps) in
    chain_last c.args.judge.now c.args.program.now c.args.judged c.args.expr.now c.in-Chain.first c.in-Chain.steps c.in-Chain.last c.in-Ok-eval-2.left c.in-Ok-chained.left c.joined.result c.in-Chain.is (rw c.get-in-Chain.ensures at first) steps last

pub eval-returns-in-Err-eval : goal.eval-returns-in-Err-eval
eval-returns-in-Err-eval t c = unary_stops c.args.judge.now c.args.program.now c.args.judged c.args.expr.now c.in-Unary.inner c.in-Unary.op c.in-Err-eval.stop c.in-Unary.is (carried c.args.judge.now c.args.program.now c.args.judged c.get-in-Unary.result.now c.in-Unary.inner c.eval-in-Unary.result (Err c.in-Err-eval.stop) c.get-in-Unary.ensures c.in-Err-eval.is c.eval-in-Unary.ensures)

pub eval-returns-in-Err-chained : goal.eval-returns-in-Err-chained
eval-returns-in-Err-chained t c = chain_stops c.args.judge.now c.args.program.now c.args.judged c.args.expr.now c.in-Chain.first c.in-Chain.steps c.in-Chain.last c.in-Ok-eval-2.left c.in-Err-chained.stop c.in-Chain.is (carried c.args.judge.now c.args.program.now c.args.judged c.get-in-Chain.result.now c.in-Chain.first c.eval-in-Chain.result (Ok c.in-Ok-eval-2.left) c.get-in-Chain.ensures c.in-Ok-eval-2.is c.eval-in-Chain.ensures) ((rw (c.in-Err-chained.is, c.as_slice.ensures) at c.chained.ensures) (is_there c.args.judge.now c.args.program.now c.args.judged _ c.in-Ok-eval-2.left (rw c.in-Ok-eval-2.is at c.eval-in-Chain.ensures)))

pub eval-returns-in-Err-eval-2 : goal.eval-returns-in-Err-eval-2
eval-returns-in-Err-eval-2 t c = chain_first c.args.judge.now c.args.program.now c.args.judged c.args.expr.now c.in-Chain.first c.in-Chain.steps c.in-Chain.last c.in-Err-eval-2.stop c.in-Chain.is (carried c.args.judge.now c.args.program.now c.args.judged c.get-in-Chain.result.now c.in-Chain.first c.eval-in-Chain.result (Err c.in-Err-eval-2.stop) c.get-in-Chain.ensures c.in-Err-eval-2.is c.eval-in-Chain.ensures)

pub eval-returns-in-Some-false : goal.eval-returns-in-Some-false
eval-returns-in-Some-false t c = meets_third c.args.judge.now c.args.program.now c.args.judged c.args.expr.now c.in-Conditional.condition c.in-Conditional.second c.in-Conditional.third c.in-Ok-eval-3.condition c.eval-in-Some-false.result c.in-Conditional.is (carried c.args.judge.now c.args.program.now c.args.judged c.get-in-Conditional.result.now c.in-Conditional.condition c.eval-in-Conditional.result (Ok c.in-Ok-eval-3.condition) c.get-in-Conditional.ensures c.in-Ok-eval-3.is c.eval-in-Conditional.ensures) (sym c.truth.ensures ∙ c.in-Some-false.is ∙ ap Some c.in-Some-false.field-0-test) (rw c.get-in-Some-false.ensures at c.eval-in-Some-false.ensures)

pub eval-returns-in-None : goal.eval-returns-in-None
eval-returns-in-None t c = no_condition c.args.judge.now c.args.program.now c.args.judged c.args.expr.now c.in-Conditional.condition c.in-Conditional.second c.in-Conditional.third c.in-Ok-eval-3.condition c.in-Conditional.is (carried c.args.judge.now c.args.program.now c.args.judged c.get-in-Conditional.result.now c.in-Conditional.condition c.eval-in-Conditional.result (Ok c.in-Ok-eval-3.condition) c.get-in-Conditional.ensures c.in-Ok-eval-3.is c.eval-in-Conditional.ensures) (sym c.truth.ensures ∙ c.in-None.is)

pub joined-returns-in-Whole : goal.joined-returns-in-Whole
joined-returns-in-Whole t c = λ i. joins_whole c.args.judge.now c.args.program.now c.args.judged c.args.left c.args.part.now c.args.at c.in-Whole.value i (sym c.opened.ensures ∙ c.in-Whole.is)

pub joined-returns-in-Ok : goal.joined-returns-in-Ok
joined-returns-in-Ok t c = λ i. rw c.closed.ensures (joins_right c.args.judge.now c.args.program.now c.args.judged c.args.left c.args.part.now c.args.at c.in-Right.left c.in-Ok.right i (sym c.opened.ensures ∙ c.in-Right.is) (rw c.in-Ok.is at c.eval.ensures))

pub joined-returns-in-Err : goal.joined-returns-in-Err
joined-returns-in-Err t c = λ i. right_stops c.args.judge.now c.args.program.now c.args.judged c.args.left c.args.part.now c.args.at c.in-Right.left c.in-Err.stop i (sym c.opened.ensures ∙ c.in-Right.is) (rw c.in-Err.is at c.eval.ensures)

pub joined-returns-in-Stuck : goal.joined-returns-in-Stuck
joined-returns-in-Stuck t c = λ i. joins_nothing c.args.judge.now c.args.program.now c.args.judged c.args.left c.args.part.now c.args.at i (sym c.opened.ensures ∙ c.in-Stuck.is)
