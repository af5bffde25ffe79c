use Rattle.cx_syntax_vars.proofs.Typedefs.{exactly_typedef}
use Rattle.cx_syntax_vars.proofs.Inits.{exactly_init}
use Rattle.cx_syntax_vars.proofs.Vars.{exactly_var, exactly_vars}
use Rattle.cx_syntax_vars.proofs.Params.{exactly_param, exactly_params}
use Rattle.cx_syntax_vars.proofs.Locals.{exactly_declared, exactly_local, exactly_bare_local}
use Rattle.cx_syntax_vars.proofs.laws.readers_are_exact.Goals as goal

pub returns-clause-typedef : goal.returns-clause-typedef
returns-clause-typedef c = λ levels ts. (exactly_typedef levels).at ts

pub returns-clause-init : goal.returns-clause-init
returns-clause-init c = λ levels ts. (exactly_init levels).at ts

pub returns-clause-var : goal.returns-clause-var
returns-clause-var c = λ levels ts. (exactly_var levels).at ts

pub returns-clause-vars : goal.returns-clause-vars
returns-clause-vars c = λ levels ts. (exactly_vars levels).at ts

pub returns-clause-param : goal.returns-clause-param
returns-clause-param c = λ levels ts. (exactly_param levels).at ts

pub returns-clause-params : goal.returns-clause-params
returns-clause-params c = λ levels ts. (exactly_params levels).at ts

pub returns-clause-declared : goal.returns-clause-declared
returns-clause-declared c = λ levels ts. (exactly_declared levels).at ts

pub returns-clause-local : goal.returns-clause-local
returns-clause-local c = λ levels ts. (exactly_local levels).at ts

pub returns-clause-bare_local : goal.returns-clause-bare_local
returns-clause-bare_local c = λ levels ts. (exactly_bare_local levels).at ts
