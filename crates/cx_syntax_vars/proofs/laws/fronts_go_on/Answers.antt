use Rattle.std.proofs.Common.{refl}
use Rattle.cx_syntax.proofs.Viable.{goes_on}
use Rattle.cx_syntax_vars.proofs.Viable.{viable_typedef, viable_init, viable_var, viable_vars, viable_param, viable_params, viable_declared, viable_local, viable_bare_local}
use Rattle.cx_syntax_vars.proofs.laws.fronts_go_on.Goals as goal

pub returns-clause-typedef : goal.returns-clause-typedef
returns-clause-typedef c = λ n ts b. let p = goes_on refl viable_typedef ts b in (p.more, p.value, p.spelled)

pub returns-clause-init : goal.returns-clause-init
returns-clause-init c = λ n ts b. let p = goes_on refl (viable_init n) ts b in (p.more, p.value, p.spelled)

pub returns-clause-var : goal.returns-clause-var
returns-clause-var c = λ n ts b. let p = goes_on refl (viable_var n) ts b in (p.more, p.value, p.spelled)

pub returns-clause-vars : goal.returns-clause-vars
returns-clause-vars c = λ n ts b. let p = goes_on refl (viable_vars n) ts b in (p.more, p.value, p.spelled)

pub returns-clause-param : goal.returns-clause-param
returns-clause-param c = λ n ts b. let p = goes_on refl (viable_param n) ts b in (p.more, p.value, p.spelled)

pub returns-clause-params : goal.returns-clause-params
returns-clause-params c = λ n ts b. let p = goes_on refl (viable_params n) ts b in (p.more, p.value, p.spelled)

pub returns-clause-declared : goal.returns-clause-declared
returns-clause-declared c = λ n ts b. let p = goes_on refl (viable_declared n) ts b in (p.more, p.value, p.spelled)

pub returns-clause-local : goal.returns-clause-local
returns-clause-local c = λ n ts b. let p = goes_on refl (viable_local n) ts b in (p.more, p.value, p.spelled)

pub returns-clause-bare_local : goal.returns-clause-bare_local
returns-clause-bare_local c = λ n ts b. let p = goes_on refl (viable_bare_local n) ts b in (p.more, p.value, p.spelled)
