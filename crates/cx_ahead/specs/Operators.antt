-- Binary operators by the set of their classes.
use Rattle.std.specs.Prelude.{Bool, Option, Some, None, if◌then◌else◌}
use Rattle.cx_tree.specs.declared.operators.BinaryOp.{BinaryOp}
use Rattle.cx_syntax.specs.declared.class.Class.{Class}
use Rattle.cx_syntax.specs.Values.{binary_by}

-- the operator of a class of the set
abbrev pub operator_in : (Class → Bool) → Class → Option BinaryOp
operator_in set c = if set c then Some (binary_by c) else None
