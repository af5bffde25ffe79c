use Rattle.cx_records.proofs.parts.+nth_step.Given as goal

abbrev pub decreases-nth_step : goal.decreases-nth_step
decreases-nth_step l = l.rest
