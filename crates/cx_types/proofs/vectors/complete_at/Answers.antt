use Rattle.std.proofs.Common.{Some}
use Rattle.cx_type_defs.specs.declared.decl.ClassDecl.{ClassDecl}
use Rattle.cx_type_defs.proofs.Lists.{changed_at_set}
use Rattle.cx_types.proofs.vectors.complete_at.Goals as goal

pub returns : goal.returns
returns c = changed_at_set (λ (d : ClassDecl). record d { body = Some c.args.body }) c.args.classes.now.items c.args.i c.index_mut-decl.result.now c.requires c.index_mut-decl.ensures.value
