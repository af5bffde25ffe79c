use Rattle.std.proofs.Common.{◌≡◌, drop}
use Rattle.cx_thin_judge.specs.Evaluating.{IsThere, chains}
use Rattle.cx_thin_judge.proofs.eval.+eval.Given as goal

abbrev pub invariant-chained-loop-step : goal.invariant-chained-loop-step
invariant-chained-loop-step l = IsThere l.program l.fn.first → IsThere l.program l.left × (chains l.judge l.program l.judged l.fn.first l.steps ≡ chains l.judge l.program l.judged l.left (drop l.step-index l.steps))
