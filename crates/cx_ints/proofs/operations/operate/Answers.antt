use Rattle.std.proofs.Common.{◌-ℤ◌, ◌*ℤ◌, Ok, ap, sym, ◌∙◌, min, max}
use Rattle.std.specs.Int.{w128}
use Rattle.std.proofs.lemmas.Int.{to_z-of_z}
use Rattle.cx_ints.specs.declared.int.Int.{Int}
use Rattle.cx_ints.specs.declared.operators.BinOp.{BinOp}
use Rattle.cx_ints.specs.Operations.{operation, quotient, on_ok, bitwise, differ}
use Rattle.cx_ints.proofs.Exact.{word_fits}
use Rattle.cx_ints.proofs.Results.{at_common_is, shl_is, shr_is}
use Rattle.cx_ints.proofs.operations.operate.Goals as goal

pub returns-in-Rem : goal.returns-in-Rem
unfolding operation
returns-in-Rem c =
    let pair = c.balanced-pair in
    at_common_is (λ t x y. on_ok (quotient t x y) t (λ q. x -ℤ q *ℤ y)) c.args.a c.args.b _ _ _ c.remainder.result pair.ensures.ty pair.ensures.left pair.ensures.right c.remainder.ensures
    ∙ ap (λ (o : BinOp). operation o c.args.a c.args.b) (sym c.in-Rem.is)

pub returns-in-And : goal.returns-in-And
unfolding operation
returns-in-And c =
    let pair = c.balanced-pair in
    at_common_is (bitwise (λ m n. min m n)) c.args.a c.args.b _ _ _ _ pair.ensures.ty pair.ensures.left pair.ensures.right (ap (λ (v : Int). Ok v) c.bit_and.ensures)
    ∙ ap (λ (o : BinOp). operation o c.args.a c.args.b) (sym c.in-And.is)

pub returns-in-Or : goal.returns-in-Or
unfolding operation
returns-in-Or c =
    let pair = c.balanced-pair in
    at_common_is (bitwise (λ m n. max m n)) c.args.a c.args.b _ _ _ _ pair.ensures.ty pair.ensures.left pair.ensures.right (ap (λ (v : Int). Ok v) c.bit_or.ensures)
    ∙ ap (λ (o : BinOp). operation o c.args.a c.args.b) (sym c.in-Or.is)

pub returns-in-Xor : goal.returns-in-Xor
unfolding operation
returns-in-Xor c =
    let pair = c.balanced-pair in
    at_common_is (bitwise differ) c.args.a c.args.b _ _ _ _ pair.ensures.ty pair.ensures.left pair.ensures.right (ap (λ (v : Int). Ok v) c.bit_xor.ensures)
    ∙ ap (λ (o : BinOp). operation o c.args.a c.args.b) (sym c.in-Xor.is)

pub returns-in-Shl : goal.returns-in-Shl
returns-in-Shl c =
    let count = c.promoted-in-Shl in
    shl_is c.args.a c.args.b c.promoted.result count.result _ c.shift_left.result c.promoted.ensures.value count.ensures.value (to_z-of_z w128 count.result.value (word_fits count.result.value count.ensures.word)) c.shift_left.ensures
    ∙ ap (λ (o : BinOp). operation o c.args.a c.args.b) (sym c.in-Shl.is)

pub returns-in-Shr : goal.returns-in-Shr
returns-in-Shr c =
    let count = c.promoted-in-Shr-2 in
    shr_is c.args.a c.args.b c.promoted-in-Shr.result count.result _ c.shift_right.result c.promoted-in-Shr.ensures.value count.ensures.value (to_z-of_z w128 count.result.value (word_fits count.result.value count.ensures.word)) c.shift_right.ensures
    ∙ ap (λ (o : BinOp). operation o c.args.a c.args.b) (sym c.in-Shr.is)
