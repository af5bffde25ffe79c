use Rattle.std.proofs.Common.{◌≡◌, ◌<◌, ◌∙◌, ◌-◌, ap, arith, length, length-drop, sym, subst, true}
use Rattle.cx_tokens.specs.Decided.{is_decided}
use Rattle.cx_tokens.proofs.Deciding.{told_within}
use Rattle.cx_tokens.proofs.Going.{Open, opens_on, opens_to_fault}
use Rattle.cx_tokens.proofs.lexer.advance.Goals as goal

pub pieces-preserved : goal.pieces-preserved
pieces-preserved c =
    let inv = c.pieces.invariant in
    let on = c.in-Ok.ensures.on in
    let t : is_decided c.pieces.here.opens c.pieces.left.now ≡ true = sym c.is_decided.ensures ∙ c.pieces-test.true in
    let some : 0 < length c.pieces.left.now = omega (arith, told_within c.pieces.here.opens c.pieces.left.now t) in
    let left = c.rest_from-left.ensures in (
      omega (arith, inv.0, on.on),
      omega (arith, inv.1, on.on, on.within, ap length left, length-drop (c.in-Ok.next.at - c.pieces.here.at) c.pieces.left.now),
      on.counted,
      c.found_at-shape-in-Ok.ensures,
      λ bytes d s. subst (λ xs. Open bytes xs c.in-Ok.next c.over.new.tokens) (sym left)
          (opens_on bytes c.pieces.left.now c.pieces.here c.in-Ok.next c.pieces.tokens c.over.new.tokens some (omega (arith, on.on)) t
          (inv.4 bytes d s) (c.in-Ok.ensures.steps bytes)),
    )

pub returns-in-Err-clause-advances : goal.returns-in-Err-clause-advances
returns-in-Err-clause-advances c bytes d s =
    let inv = c.pieces.invariant in
    let t : is_decided c.pieces.here.opens c.pieces.left.now ≡ true = sym c.is_decided.ensures ∙ c.pieces-test.true in
    let some : 0 < length c.pieces.left.now = omega (arith, told_within c.pieces.here.opens c.pieces.left.now t) in
    opens_to_fault bytes c.pieces.left.now c.pieces.here c.pieces.tokens c.over.new.tokens c.in-Err.answer some t (inv.4 bytes d s) (c.in-Err.ensures.steps bytes)

pub returns-clause-lies : goal.returns-clause-lies
returns-clause-lies c =
    let inv = c.pieces.invariant in
    record { from = inv.0; within = omega (arith, inv.1); counted = inv.2 }

pub returns-clause-advances : goal.returns-clause-advances
returns-clause-advances c bytes d s = (c.pieces.invariant.4 bytes d s).stands
