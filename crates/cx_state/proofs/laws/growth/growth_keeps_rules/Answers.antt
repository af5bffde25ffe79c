use Rattle.std.proofs.Common.{sym}
use Rattle.cx_state.proofs.Agreeing.{broken-same}
use Rattle.cx_state.proofs.Answering.{is-known}
use Rattle.cx_state.proofs.laws.growth.growth_keeps_rules.Goals as goal

pub returns : goal.returns
returns c = record { broken = λ t u g os h p e a. sym (broken-same t u g os p h (is-known t u g os p e) a) }
