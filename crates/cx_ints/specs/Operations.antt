-- The operations on integers, with the rules that they violate ([expr]). An operation converts its operands first, which is defined on every whole number, so nothing here asks that an operand is in its type's range.
use Rattle.std.specs.Prelude.{ℕ, ◌+◌, ◌-◌, ◌%◌, ◌^◌, min, max, Bool, not, ◌&&◌, nat_lt, if◌then◌else◌, ℤ, pos, negsuc, ◌+ℤ◌, ◌-ℤ◌, ◌*ℤ◌, int_lt, int_le, int_div, Result, Ok, Err, ◌≡◌}
use Rattle.cx_base.specs.declared.int_type.IntType.{IntType}
use Rattle.cx_base.specs.declared.int_type.IntType.TheVariants as type
use Rattle.cx_base.specs.declared.rule.Rule.{Rule}
use Rattle.cx_base.specs.declared.rule.Rule.TheVariants as rule
use Rattle.cx_ints.specs.declared.int.Int.{Int}
use Rattle.cx_ints.specs.declared.operators.BinOp.{BinOp}
use Rattle.cx_ints.specs.declared.operators.BinOp.TheVariants as op
use Rattle.cx_ints.specs.declared.operators.UnOp.{UnOp}
use Rattle.cx_ints.specs.declared.operators.UnOp.TheVariants as un
use Rattle.cx_ints.specs.Ranges.{width, is_signed, fits, Fits}
use Rattle.cx_ints.specs.Conversions.{reduce, converted, truth, is_zero, promote, common}
use Rattle.cx_ints.specs.Bits.{bit, floor_div, of_bits}

abbrev pub int : IntType → ℤ → Int
int t z = record { ty = t; value = z }

-- An exact result: an unsigned type takes it modulo 2 ^ N, and one that a signed type doesn't have is an overflow.
unfoldable pub delivered : IntType → ℤ → Result Int Rule
delivered t z =
    if is_signed t then (if fits t z then Ok (int t z) else Err rule.Overflow) else Ok (int t (reduce t z))

-- The quotient, cut towards zero; `/` and `%` ask that the type has it.
unfoldable pub quotient : IntType → ℤ → ℤ → Result ℤ Rule
quotient t x y =
    if is_zero y then Err rule.DivideByZero else (if fits t (int_div x y) then Ok (int_div x y) else Err rule.Quotient)

-- A shift's count is from 0 to below the left operand's width.
unfoldable pub counted : ℤ → IntType → Result ℕ Rule
counted (pos n) t = if nat_lt n (width t) then Ok n else Err rule.ShiftCount
counted (negsuc n) t = Err rule.ShiftCount

-- what comes of a quotient or a count, where there is one
abbrev pub on_ok : {X : Type 0} → Result X Rule → IntType → (X → ℤ) → Result Int Rule
on_ok (Ok x) t f = Ok (int t (f x))
on_ok (Err e) t f = Err e

abbrev pub equal : ℤ → ℤ → Bool
equal x y = int_le x y && int_le y x

abbrev pub compared : Bool → Result Int Rule
compared b = Ok (int type.Bool (truth b))

-- bit by bit
abbrev pub bitwise : (ℕ → ℕ → ℕ) → IntType → ℤ → ℤ → Result Int Rule
bitwise f t x y = Ok (int t (of_bits t (λ k. f (bit x k) (bit y k))))

abbrev pub differ : ℕ → ℕ → ℕ
differ m n = (m + n) % 2

-- both operands are converted to their common type
abbrev pub at_common : Int → Int → (IntType → ℤ → ℤ → Result Int Rule) → Result Int Rule
at_common a b f = f (common a.ty b.ty) (converted (common a.ty b.ty) a.value) (converted (common a.ty b.ty) b.value)

-- an operand after its own promotion
abbrev pub promoted : Int → ℤ
promoted a = converted (promote a.ty) a.value

-- [expr.add], [expr.mul], [expr.shift], [expr.bit.and], [expr.or], [expr.xor], [expr.eq], [expr.rel]
unfoldable pub operation : BinOp → Int → Int → Result Int Rule
operation op.Add a b = at_common a b (λ t x y. delivered t (x +ℤ y))
operation op.Sub a b = at_common a b (λ t x y. delivered t (x -ℤ y))
operation op.Mul a b = at_common a b (λ t x y. delivered t (x *ℤ y))
operation op.Div a b = at_common a b (λ t x y. on_ok (quotient t x y) t (λ q. q))
operation op.Rem a b = at_common a b (λ t x y. on_ok (quotient t x y) t (λ q. x -ℤ q *ℤ y))
operation op.Shl a b = on_ok (counted (promoted b) (promote a.ty)) (promote a.ty) (λ n. reduce (promote a.ty) (promoted a *ℤ pos (2 ^ n)))
operation op.Shr a b = on_ok (counted (promoted b) (promote a.ty)) (promote a.ty) (λ n. floor_div (promoted a) (2 ^ n))
operation op.And a b = at_common a b (bitwise min)
operation op.Or a b = at_common a b (bitwise max)
operation op.Xor a b = at_common a b (bitwise differ)
operation op.Eq a b = at_common a b (λ t x y. compared (equal x y))
operation op.Ne a b = at_common a b (λ t x y. compared (not (equal x y)))
operation op.Lt a b = at_common a b (λ t x y. compared (int_lt x y))
operation op.Le a b = at_common a b (λ t x y. compared (int_le x y))
operation op.Gt a b = at_common a b (λ t x y. compared (int_lt y x))
operation op.Ge a b = at_common a b (λ t x y. compared (int_le y x))

-- [expr.unary.op]
unfoldable pub unary_operation : UnOp → Int → Result Int Rule
unary_operation un.Plus a = Ok (int (promote a.ty) (promoted a))
unary_operation un.Minus a = delivered (promote a.ty) (pos 0 -ℤ promoted a)
unary_operation un.Complement a = Ok (int (promote a.ty) (of_bits (promote a.ty) (λ k. 1 - bit (promoted a) k)))

-- the type of a result
unfoldable pub result_type : BinOp → IntType → IntType → IntType
result_type op.Add t u = common t u
result_type op.Sub t u = common t u
result_type op.Mul t u = common t u
result_type op.Div t u = common t u
result_type op.Rem t u = common t u
result_type op.Shl t u = promote t
result_type op.Shr t u = promote t
result_type op.And t u = common t u
result_type op.Or t u = common t u
result_type op.Xor t u = common t u
result_type op.Eq t u = type.Bool
result_type op.Ne t u = type.Bool
result_type op.Lt t u = type.Bool
result_type op.Le t u = type.Bool
result_type op.Gt t u = type.Bool
result_type op.Ge t u = type.Bool

-- a value of that type
abbrev pub IsOf : IntType → Int → Type 0
IsOf t a = (a.ty ≡ t) × Fits t a.value
