-- What contracts see of an `Elab`, and what holds of each.
use Rattle.std.specs.Prelude.{◌≡◌, List, Option, Some, Result, Ok, Err, true, false, slice_get}
use Rattle.cx_base.specs.declared.int_type.IntType.{IntType}
use Rattle.cx_base.specs.declared.int_type.IntType.TheVariants as type
use Rattle.cx_base.specs.declared.limits.Limits.{Limits}
use Rattle.cx_scopes.specs.declared.kinds.Entity.{Entity}
use Rattle.cx_scopes.specs.Scopes.{ScopeTables}
use Rattle.cx_base.specs.declared.rule.Rule.{Rule}
use Rattle.cx_type_defs.specs.declared.ids.TypeId.{TypeId}
use Rattle.cx_type_defs.specs.declared.ids.VarId.{VarId}
use Rattle.cx_type_defs.specs.declared.kind.TypeKind.TheVariants as kind
use Rattle.cx_type_defs.specs.declared.kind.TypeRow.{TypeRow}
use Rattle.cx_type_defs.specs.Same.{Form, form_of}
use Rattle.cx_type_defs.specs.Tables.{Tables}
use Rattle.cx_typed.specs.declared.lines.Line.{Line}
use Rattle.cx_typed.specs.Judging.{Kept}
use Rattle.cx_typed.specs.Programs.{Rows}
use Rattle.cx_typed.specs.Shown.{vars_shown}
use Rattle.cx_typed.specs.Trees.{Var}
use Rattle.cx_exprs.specs.declared.answer.ElabAnswer.{ElabAnswer}
use Rattle.cx_exprs.specs.declared.answer.ElabAnswer.TheVariants as answer
use Rattle.cx_exprs.specs.declared.ints.Ints.{Ints}
use Rattle.cx_exprs.specs.declared.names.NamedVariable.{NamedVariable}
use Rattle.cx_exprs.specs.Forms.{first_meant}
use Rattle.cx_exprs.specs.Typing.{Typed, Fault, World}

pub record Desk : Type 0 where
  pub program : Rows
  pub names : ScopeTables
  pub kept : Kept
  pub limits : Limits
  pub lines : List Line
  pub ended : Option ElabAnswer

abbrev pub types_of : Desk → Tables
types_of d = d.program.types

-- the world, in which no number of a type stands
abbrev pub world_of : Desk → World
world_of d = record { names = d.names; variables = vars_shown d.program; kept = d.kept; limits = d.limits; lines = d.lines }

-- the number of an integer type
abbrev pub id_in : Ints → IntType → TypeId
id_in i type.Bool = i.bool_id
id_in i type.Char = i.char_id
id_in i type.SChar = i.schar_id
id_in i type.UChar = i.uchar_id
id_in i type.Short = i.short_id
id_in i type.UShort = i.ushort_id
id_in i type.Int = i.int_id
id_in i type.UInt = i.uint_id
id_in i type.Long = i.long_id
id_in i type.ULong = i.ulong_id
id_in i type.LongLong = i.long_long_id
id_in i type.ULongLong = i.ulong_long_id

abbrev pub int_row : IntType → TypeRow
int_row ty = record { kind = kind.Int ty; konst = false }

-- each integer type stands in the tables by its number
pub record HasInts (t : Tables) (i : Ints) : Type 0 where
  pub each : (ty : IntType) → slice_get t.rows (id_in i ty).0 ≡ Some (int_row ty)

-- a variable that is found, with what is said of its type
abbrev pub named_shown : Tables → Result NamedVariable Rule → Result (VarId × Form) Rule
named_shown t (Ok v) = Ok (v.variable, form_of true t v.ty)
named_shown t (Err r) = Err r

-- what is made of what a lookup found
abbrev pub looked_up_in : List Var → Result (List Entity) Rule → Result (VarId × Form) Rule
looked_up_in vs (Ok es) = first_meant vs es
looked_up_in vs (Err r) = Err r

-- where it is a fault, it is that one
abbrev pub IsFault : {A : Type 0} → ElabAnswer → Typed A → Type 0
IsFault (answer.Fault d) t = t ≡ Fault d
IsFault answer.Memory t = Unit {0}
