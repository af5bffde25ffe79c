use Rattle.cx_syntax.proofs.Endless.{no_end}
use Rattle.cx_syntax_vars.proofs.Endless.{endless_typedef, endless_init, endless_var, endless_vars, endless_param, endless_params, endless_declared, endless_local, endless_bare_local}
use Rattle.cx_syntax_vars.proofs.laws.ends_nowhere.Goals as goal

pub returns-clause-typedef : goal.returns-clause-typedef
returns-clause-typedef c = λ n ts b. no_end ts (endless_typedef.begins ts b)

pub returns-clause-init : goal.returns-clause-init
returns-clause-init c = λ n ts b. no_end ts ((endless_init n).begins ts b)

pub returns-clause-var : goal.returns-clause-var
returns-clause-var c = λ n ts b. no_end ts ((endless_var n).begins ts b)

pub returns-clause-vars : goal.returns-clause-vars
returns-clause-vars c = λ n ts b. no_end ts ((endless_vars n).begins ts b)

pub returns-clause-param : goal.returns-clause-param
returns-clause-param c = λ n ts b. no_end ts ((endless_param n).begins ts b)

pub returns-clause-params : goal.returns-clause-params
returns-clause-params c = λ n ts b. no_end ts ((endless_params n).begins ts b)

pub returns-clause-declared : goal.returns-clause-declared
returns-clause-declared c = λ n ts b. no_end ts ((endless_declared n).begins ts b)

pub returns-clause-local : goal.returns-clause-local
returns-clause-local c = λ n ts b. no_end ts ((endless_local n).begins ts b)

pub returns-clause-bare_local : goal.returns-clause-bare_local
returns-clause-bare_local c = λ n ts b. no_end ts ((endless_bare_local n).begins ts b)
