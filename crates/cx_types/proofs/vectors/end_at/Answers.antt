use Rattle.std.proofs.Common.{Some}
use Rattle.cx_type_defs.specs.declared.decl.EnumDecl.{EnumDecl}
use Rattle.cx_type_defs.proofs.Lists.{changed_at_set}
use Rattle.cx_types.proofs.vectors.end_at.Goals as goal

pub returns : goal.returns
returns c = changed_at_set (λ (d : EnumDecl). record d { end = Some c.args.end }) c.args.enums.now.items c.args.i c.index_mut-decl.result.now c.requires c.index_mut-decl.ensures.value
