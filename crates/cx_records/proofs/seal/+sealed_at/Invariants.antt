use Rattle.cx_records.proofs.seal.+sealed_at.Given as goal

abbrev pub decreases-sealed_at : goal.decreases-sealed_at
decreases-sealed_at l = l.rest
