use Rattle.cx_alike.proofs.Forms.{aside-alike, alike-aside}
use Rattle.cx_alike.proofs.laws.alike_is_same_aside.Goals as goal

pub returns-clause-alike : goal.returns-clause-alike
returns-clause-alike c = aside-alike

pub returns-clause-aside : goal.returns-clause-aside
returns-clause-aside c = alike-aside
