-- What strict operations give ([expr], [conv]). The meaning of expressions cites the step, and so does what runs them.
use Rattle.std.specs.Prelude.{List, [], ◌∷◌, Option, None, Some, Result, Ok, Err, option_and_then, option_map}
use Rattle.cx_base.specs.declared.int_type.IntType.{IntType}
use Rattle.cx_base.specs.declared.int_type.IntType.TheVariants as type
use Rattle.cx_base.specs.declared.rule.Rule.{Rule}
use Rattle.cx_ints.specs.declared.int.Int.{Int}
use Rattle.cx_ints.specs.Conversions.{convert, promote, truth, is_zero}
use Rattle.cx_ints.specs.Operations.{int, operation, unary_operation, result_type}
use Rattle.cx_state.specs.declared.kind.Scalar.{Scalar}
use Rattle.cx_state.specs.declared.kind.Scalar.TheVariants as scalar
use Rattle.cx_state.specs.Objects.{Path}
use Rattle.cx_state.specs.States.{Memory, Op, Done, Broken, Wrong}
use Rattle.cx_ops.specs.declared.StrictOp.{StrictOp}
use Rattle.cx_ops.specs.declared.StrictOp.TheVariants as op
use Rattle.cx_ops.specs.declared.OpAnswer.{OpAnswer}
use Rattle.cx_ops.specs.declared.OpAnswer.TheVariants as answer

-- `!` of a number, which is true for 0 alone
abbrev pub negated : Int → Int
negated a = int type.Bool (truth (is_zero a.value))

-- the value, or the rule that is broken; None where it doesn't take these operands
abbrev pub given : StrictOp → List Int → Option (Result Int Rule)
given (op.Convert ty) (a ∷ []) = Some (Ok (convert a ty))
given op.Not (a ∷ []) = Some (Ok (negated a))
given (op.Unary o) (a ∷ []) = Some (unary_operation o a)
given (op.Binary o) (a ∷ b ∷ []) = Some (operation o a b)
given _ _ = None

-- the type of the value, by those of the operands
abbrev pub given_type : StrictOp → List IntType → Option IntType
given_type (op.Convert ty) (t ∷ []) = Some ty
given_type op.Not (t ∷ []) = Some type.Bool
given_type (op.Unary o) (t ∷ []) = Some (promote t)
given_type (op.Binary o) (t ∷ u ∷ []) = Some (result_type o t u)
given_type _ _ = None

-- the numbers that the values are, where all are
abbrev pub numbers : List (Scalar Path) → Option (List Int)
numbers [] = Some []
numbers (scalar.Int a ∷ vs) = option_map (λ ns. a ∷ ns) (numbers vs)
numbers _ = None

abbrev pub delivered : Memory → Option (Result Int Rule) → Op (Scalar Path)
delivered m None = Wrong
delivered m (Some (Ok a)) = Done (scalar.Int a) m
delivered m (Some (Err r)) = Broken r

-- the step, which changes nothing
abbrev pub strict : StrictOp → List (Scalar Path) → Memory → Op (Scalar Path)
strict o vs m = delivered m (option_and_then (given o) (numbers vs))

-- what a call answers, in these words
abbrev pub answered : Result Int OpAnswer → Option (Result Int Rule)
answered (Ok a) = Some (Ok a)
answered (Err (answer.Rule r)) = Some (Err r)
answered (Err answer.Wrong) = None
