-- What operators do with their operands ([expr.unary.op], [expr.mul] to [expr.log.or], [expr.cond]).
use Rattle.std.specs.Prelude.{Bool, true, false, if◌then◌else◌}
use Rattle.cx_base.specs.declared.int_type.IntType.{IntType}
use Rattle.cx_base.specs.declared.int_type.IntType.TheVariants as type
use Rattle.cx_ints.specs.Conversions.{common, promote}
use Rattle.cx_ints.specs.declared.operators.BinOp.{BinOp}
use Rattle.cx_ints.specs.declared.operators.BinOp.TheVariants as int
use Rattle.cx_ints.specs.declared.operators.UnOp.{UnOp}
use Rattle.cx_ints.specs.declared.operators.UnOp.TheVariants as un
use Rattle.cx_ops.specs.declared.StrictOp.TheVariants as op
use Rattle.cx_tree.specs.declared.operators.BinaryOp.{BinaryOp}
use Rattle.cx_tree.specs.declared.operators.BinaryOp.TheVariants as operator
use Rattle.cx_tree.specs.declared.operators.PrefixOp.{PrefixOp}
use Rattle.cx_tree.specs.declared.operators.PrefixOp.TheVariants as prefix
use Rattle.cx_typed.specs.declared.exprs.ChainOp.{ChainOp}
use Rattle.cx_typed.specs.declared.exprs.ChainOp.TheVariants as chain
use Rattle.cx_exprs.specs.Parts.{same_type}
use Rattle.cx_exprs.specs.declared.operators.Plan.{Plan}
use Rattle.cx_exprs.specs.declared.operators.UnaryPlan.{UnaryPlan}

-- both operands at their common type ([expr.arith.conv])
abbrev pub arithmetic : BinOp → IntType → IntType → Plan
arithmetic o t u = record { left = common t u; right = common t u; result = common t u; op = chain.Strict (op.Binary o) }

-- the same, with a bool
abbrev pub comparison : BinOp → IntType → IntType → Plan
comparison o t u = record { left = common t u; right = common t u; result = type.Bool; op = chain.Strict (op.Binary o) }

-- each operand promoted, and the left one's type ([expr.shift])
abbrev pub shift : BinOp → IntType → IntType → Plan
shift o t u = record { left = promote t; right = promote u; result = promote t; op = chain.Strict (op.Binary o) }

-- bools ([expr.log.and], [expr.log.or])
abbrev pub logical : ChainOp → Plan
logical o = record { left = type.Bool; right = type.Bool; result = type.Bool; op = o }

-- what an operator does with operands of these types
abbrev pub planned : BinaryOp → IntType → IntType → Plan
planned operator.LogicalOr t u = logical chain.Or
planned operator.LogicalAnd t u = logical chain.And
planned operator.BitOr t u = arithmetic int.Or t u
planned operator.BitXor t u = arithmetic int.Xor t u
planned operator.BitAnd t u = arithmetic int.And t u
planned operator.Equal t u = comparison int.Eq t u
planned operator.NotEqual t u = comparison int.Ne t u
planned operator.Less t u = comparison int.Lt t u
planned operator.Greater t u = comparison int.Gt t u
planned operator.LessEqual t u = comparison int.Le t u
planned operator.GreaterEqual t u = comparison int.Ge t u
planned operator.ShiftLeft t u = shift int.Shl t u
planned operator.ShiftRight t u = shift int.Shr t u
planned operator.Add t u = arithmetic int.Add t u
planned operator.Subtract t u = arithmetic int.Sub t u
planned operator.Multiply t u = arithmetic int.Mul t u
planned operator.Divide t u = arithmetic int.Div t u
planned operator.Remainder t u = arithmetic int.Rem t u

-- `+`, `-` and `~` take a promoted operand, and `!` a bool ([expr.unary.op])
abbrev pub signed : UnOp → IntType → UnaryPlan
signed o t = record { operand = promote t; op = op.Unary o }

abbrev pub planned_prefix : PrefixOp → IntType → UnaryPlan
planned_prefix prefix.Plus t = signed un.Plus t
planned_prefix prefix.Minus t = signed un.Minus t
planned_prefix prefix.Complement t = signed un.Complement t
planned_prefix _ t = record { operand = type.Bool; op = op.Not }

-- steps, indirection and addresses aren't built
abbrev pub is_built : PrefixOp → Bool
is_built prefix.Plus = true
is_built prefix.Minus = true
is_built prefix.Complement = true
is_built prefix.Not = true
is_built _ = false

-- the type of `c ? a : b`, where it is a value ([expr.cond])
abbrev pub between : IntType → IntType → IntType
between t u = if same_type t u then t else common t u
