-- What each rule gives, from the values of its parts in order.
use Rattle.std.specs.Prelude.{ℕ, List, Option}
use Rattle.cx_base.specs.declared.diag.Span.{Span}
use Rattle.cx_tree.specs.declared.names.Ident.{Ident}
use Rattle.cx_tree.specs.declared.specifiers.Specs.{Specs}
use Rattle.cx_tree.specs.declared.specifiers.Ptrs.{Ptrs}
use Rattle.cx_tree.specs.declared.exprs.Args.{Args, roll-Args}
use Rattle.cx_tree.specs.declared.exprs.Bound.{Bound}
use Rattle.cx_tree.specs.declared.exprs.Expr.{Expr}
use Rattle.cx_tree.specs.declared.decls.Typedef.{Typedef}
use Rattle.cx_tree.specs.declared.decls.Param.{Param}
use Rattle.cx_tree.specs.declared.stmts.Init.{Init}
use Rattle.cx_tree.specs.declared.stmts.InitKind.{InitKind}
use Rattle.cx_tree.specs.declared.stmts.Local.{Local}
use Rattle.cx_tree.specs.declared.stmts.Var.{Var}

abbrev pub typedef_of : (Specs × (Ptrs × Ident)) × Span → Typedef
typedef_of u = record { specs = u.0.0; ptrs = u.0.1.0; name = u.0.1.1; span = u.1 }

-- arguments in parentheses
abbrev pub list_of : List Expr × Span → Args
list_of u = roll-Args (record { items = u.0; span = u.1 })

abbrev pub init_of : InitKind × Span → Init
init_of u = record { kind = u.0; span = u.1 }

-- the pointers, the name, the levels of its attributes, the bounds, and the initializer
abbrev pub var_of : (Ptrs × (Ident × (ℕ × (List Bound × Option Init)))) × Span → Var
var_of u = record { ptrs = u.0.0; name = u.0.1.0; attrs = u.0.1.1.0; bounds = u.0.1.1.1.0; init = u.0.1.1.1.1; span = u.1 }

-- the levels of the attributes, the specifiers, the pointers, the name, the bounds, and the default argument
abbrev pub param_of : (ℕ × (Specs × (Ptrs × (Option Ident × (List Bound × Option Expr))))) × Span → Param
param_of u = record { attrs = u.0.0; specs = u.0.1.0; ptrs = u.0.1.1.0; name = u.0.1.1.1.0; bounds = u.0.1.1.1.1.0; default = u.0.1.1.1.1.1; span = u.1 }

abbrev pub local_of : (ℕ × (Specs × List Var)) × Span → Local
local_of u = record { attrs = u.0.0; specs = u.0.1.0; vars = u.0.1.1; span = u.1 }

-- one without attributes
abbrev pub bare_local_of : (Specs × List Var) × Span → Local
bare_local_of u = record { attrs = 0; specs = u.0.0; vars = u.0.1; span = u.1 }
