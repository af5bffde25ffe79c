use Rattle.std.proofs.Common.{Some}
use Rattle.cx_type_defs.proofs.Lists.{changed_at_set}
use Rattle.cx_typed.specs.declared.program.TVariable.{TVariable}
use Rattle.cx_typed.proofs.program.set_init.Goals as goal

pub returns : goal.returns
returns c = changed_at_set (λ (v : TVariable). record v { init = Some c.args.init }) c.args.variables.now.items c.args.i c.index_mut-variable.result.now c.requires c.index_mut-variable.ensures.value
