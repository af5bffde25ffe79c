use Rattle.cx_type_defs.proofs.Chains.{chain-short}
use Rattle.cx_type_defs.proofs.laws.chains_are_short.Goals as goal

pub returns : goal.returns
returns c = chain-short
