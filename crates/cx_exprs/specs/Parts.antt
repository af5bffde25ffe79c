-- Parts that typed forms share: values of objects, and conversions ([conv]).
use Rattle.std.specs.Prelude.{Bool, true, false, ◌&&◌, Option, unwrap_or, int_le, if◌then◌else◌}
use Rattle.cx_base.specs.declared.diag.Span.{Span}
use Rattle.cx_base.specs.declared.int_type.IntType.{IntType}
use Rattle.cx_base.specs.declared.int_type.IntType.TheVariants as type
use Rattle.cx_ints.specs.Ranges.{fits, greatest, least}
use Rattle.cx_ops.specs.declared.StrictOp.TheVariants as op
use Rattle.cx_type_defs.specs.Same.{Form, Int}
use Rattle.cx_typed.specs.declared.judge.Outcome.{Outcome}
use Rattle.cx_typed.specs.declared.judge.Outcome.TheVariants as outcome
use Rattle.cx_typed.specs.declared.judge.Value.{Value}
use Rattle.cx_typed.specs.declared.judge.Value.TheVariants as value
use Rattle.cx_typed.specs.Trees.{Note, Tx, Load, Unary, note_of}
use Rattle.cx_typed.specs.Well.{int_of}

abbrev pub Tree : Type 0
Tree = Tx Form

-- a value of this type, which is never const ([expr.type])
abbrev pub prvalue : IntType → Span → Note Form
prvalue ty at = record { ty = Int ty; lvalue = false; span = at }

-- the integer type of an expression; so far each has one
abbrev pub type_by : Option IntType → IntType
type_by o = unwrap_or o type.Int

abbrev pub type_in : Note Form → IntType
type_in i = type_by (int_of i.ty)

abbrev pub type_of : Tree → IntType
type_of x = type_in (note_of x)

abbrev pub same_type : IntType → IntType → Bool
same_type type.Bool type.Bool = true
same_type type.Char type.Char = true
same_type type.SChar type.SChar = true
same_type type.UChar type.UChar = true
same_type type.Short type.Short = true
same_type type.UShort type.UShort = true
same_type type.Int type.Int = true
same_type type.UInt type.UInt = true
same_type type.Long type.Long = true
same_type type.ULong type.ULong = true
same_type type.LongLong type.LongLong = true
same_type type.ULongLong type.ULongLong = true
same_type _ _ = false

-- the value of an object ([conv.lval])
abbrev pub loaded_by : Note Form → Tree → Tree
loaded_by i x = if i.lvalue then Load x (prvalue (type_in i) i.span) else x

abbrev pub loaded : Tree → Tree
loaded x = loaded_by (note_of x) x

-- a value as one of this type, where it has another ([conv.prom], [conv.integral], [conv.bool])
abbrev pub converted_by : Note Form → IntType → Tree → Tree
converted_by i ty x = if same_type (type_in i) ty then x else Unary (op.Convert ty) x (prvalue ty i.span)

abbrev pub converted : IntType → Tree → Tree
converted ty x = converted_by (note_of x) ty x

abbrev pub as_value : IntType → Tree → Tree
as_value ty x = converted ty (loaded x)

-- every value of the one type is one of the other
abbrev pub holds_all : IntType → IntType → Bool
holds_all to from = int_le (least to) (least from) && int_le (greatest from) (greatest to)

-- the constant is a value of that type
abbrev pub fits_value : IntType → Value → Bool
fits_value ty (value.Int a) = fits ty a.value

abbrev pub fits_outcome : IntType → Outcome → Bool
fits_outcome ty (outcome.Value v) = fits_value ty v
fits_outcome ty (outcome.Violation d) = false
