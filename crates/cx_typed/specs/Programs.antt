-- What contracts see of a `Program`.
use Rattle.std.specs.Prelude.{List}
use Rattle.cx_type_defs.specs.Tables.{Tables}
use Rattle.cx_typed.specs.declared.program.TVariable.{TVariable}

pub record Rows : Type 0 where
  pub types : Tables
  pub variables : List TVariable
