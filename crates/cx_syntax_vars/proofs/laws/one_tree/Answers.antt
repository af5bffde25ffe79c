use Rattle.cx_syntax.proofs.Single.{one_value}
use Rattle.cx_syntax_vars.proofs.Typedefs.{exactly_typedef}
use Rattle.cx_syntax_vars.proofs.Inits.{exactly_init}
use Rattle.cx_syntax_vars.proofs.Vars.{exactly_var, exactly_vars}
use Rattle.cx_syntax_vars.proofs.Params.{exactly_param, exactly_params}
use Rattle.cx_syntax_vars.proofs.Locals.{exactly_declared, exactly_local, exactly_bare_local}
use Rattle.cx_syntax_vars.proofs.laws.one_tree.Goals as goal

pub returns-clause-typedef : goal.returns-clause-typedef
returns-clause-typedef c = one_value exactly_typedef

pub returns-clause-init : goal.returns-clause-init
returns-clause-init c = one_value exactly_init

pub returns-clause-var : goal.returns-clause-var
returns-clause-var c = one_value exactly_var

pub returns-clause-vars : goal.returns-clause-vars
returns-clause-vars c = one_value exactly_vars

pub returns-clause-param : goal.returns-clause-param
returns-clause-param c = one_value exactly_param

pub returns-clause-params : goal.returns-clause-params
returns-clause-params c = one_value exactly_params

pub returns-clause-declared : goal.returns-clause-declared
returns-clause-declared c = one_value exactly_declared

pub returns-clause-local : goal.returns-clause-local
returns-clause-local c = one_value exactly_local

pub returns-clause-bare_local : goal.returns-clause-bare_local
returns-clause-bare_local c = one_value exactly_bare_local
