-- An operation behind an expression, as the code's trees have it.
use Rattle.std.specs.Prelude.{◌≡◌, ◌<◌, length, Option, None, Some, true, false}
use Rattle.cx_base.specs.declared.int_type.IntType.{IntType}
use Rattle.cx_ops.specs.declared.StrictOp.TheVariants as op
use Rattle.cx_type_defs.specs.Same.{Form, Int, form_of}
use Rattle.cx_type_defs.specs.Tables.{Tables}
use Rattle.cx_typed.specs.declared.exprs.ChainOp.{ChainOp}
use Rattle.cx_typed.specs.declared.exprs.Conversion.{Conversion}
use Rattle.cx_typed.specs.declared.exprs.TPart.{TPart}
use Rattle.cx_typed.specs.Shown.{Within}
use Rattle.cx_typed.specs.Trees.{Note, Unary, Binary, note_of}
use Rattle.cx_exprs.specs.Parts.{Tree, same_type}

-- what stands left, converted first
abbrev pub left_value : Tables → Option Conversion → Tree → Tree
left_value t None x = x
left_value t (Some c) x = Unary (op.Convert c.to) x (record { ty = form_of true t c.ty; lvalue = false; span = (note_of x).span })

abbrev pub behind : Tables → Tree → Option Conversion → ChainOp → Tree → Note Form → Tree
behind t x left o y i = Binary o (left_value t left x) y i

-- the types of an operation and its right operand are there
pub record KnownPart (t : Tables) (p : TPart) : Type 0 where
  pub left : (c : Conversion) → p.left ≡ Some c → c.ty.0 < length t.rows
  pub operand : Within t p.operand

-- a conversion from a type to another, where they differ
abbrev pub Converts : Tables → IntType → IntType → Option Conversion → Type 0
Converts t from to None = same_type from to ≡ true
Converts t from to (Some c) = (same_type from to ≡ false) × (c.to ≡ to) × (form_of true t c.ty ≡ Int to)
