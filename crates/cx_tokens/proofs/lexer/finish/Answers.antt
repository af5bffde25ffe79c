use Rattle.std.proofs.Common.{◌≡◌, ◌<◌, ◌≤◌, ◌∙◌, ◌-◌, ◌∷◌, ◌++◌, [], ap, arith, length, length-drop, sym, subst}
use Rattle.cx_token_defs.specs.declared.TokenKind.TheVariants as kind
use Rattle.cx_tokens.specs.Cut.{end_token}
use Rattle.cx_tokens.specs.Tokens.{Lexes}
use Rattle.cx_tokens.proofs.Going.{Comes, comes_on, comes_to_fault}
use Rattle.cx_tokens.proofs.Reach.{reached_end}
use Rattle.cx_tokens.proofs.lexer.finish.Goals as goal

pub pieces-preserved : goal.pieces-preserved
pieces-preserved c =
    let inv = c.pieces.invariant in
    let on = c.in-Ok.ensures.on in
    let left = c.rest_from-left.ensures in
    let some : 0 < length c.pieces.left.now = grind (arith, c.is_empty.ensures, c.pieces-test.true) in (
      omega (arith, inv.0, on.on, on.within, ap length left, length-drop (c.in-Ok.next.at - c.pieces.here.at) c.pieces.left.now),
      on.counted,
      λ bytes d r. subst (λ xs. Comes bytes xs c.in-Ok.next c.over.new.tokens) (sym left)
          (comes_on bytes c.pieces.left.now c.pieces.here c.in-Ok.next c.pieces.tokens c.over.new.tokens some (omega (arith, on.on))
          (inv.2 bytes d r) (c.in-Ok.ensures.steps bytes)),
    )

pub returns-in-Err : goal.returns-in-Err
returns-in-Err c bytes d r =
    let some : 0 < length c.pieces.left.now = grind (arith, c.is_empty.ensures, c.pieces-test.true) in
    comes_to_fault bytes c.pieces.left.now c.pieces.here c.pieces.tokens c.over.new.tokens c.in-Err.answer some
    (c.pieces.invariant.2 bytes d r) (c.in-Err.ensures.steps bytes)

pub returns-in-Ok-push : goal.returns-in-Ok-push
returns-in-Ok-push c bytes d r =
    let none : length c.pieces.left.now ≡ 0 = grind (arith, c.is_empty.ensures, c.pieces-test.false) in
    let comes = c.pieces.invariant.2 bytes d r in
    let all : length bytes ≤ c.pieces.here.at = omega (arith, none, ap length comes.behind, length-drop c.pieces.here.at bytes) in
    let made : c.push.new.self ≡ c.pieces.tokens ++ end_token c.pieces.here.mark ∷ [] =
    c.in-Ok-push.ensures.ok ∙ ap (λ t. c.pieces.tokens ++ record { kind = kind.End; span = record { start = c.pieces.here.mark; end = c.pieces.here.mark }; text = t } ∷ []) c.new.ensures in
    subst (λ tokens. Lexes bytes tokens) (sym made) (reached_end bytes c.pieces.here c.pieces.tokens all comes.reached)
