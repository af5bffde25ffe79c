use Rattle.cx_record_dynamic.proofs.chain.+chain_in.Given as goal

abbrev pub decreases-chain_in : goal.decreases-chain_in
decreases-chain_in l = l.rest
