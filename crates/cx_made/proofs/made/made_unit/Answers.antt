use Rattle.std.proofs.Common.{◌≡◌, ◌+◌, ◌++◌, ◌≤◌, ◌∙◌, sym, refl, ap, ap₂, length, length-append, arith, lit≤}
use Rattle.cx_made.specs.Unit.{first_line, line, next_state, state_after}
use Rattle.cx_made.proofs.Lengths.{line_short, state-next, unit-first, unit-next}
use Rattle.cx_made.proofs.made.made_unit.Goals as goal

pub lines-init : goal.lines-init
lines-init c =
    let first : c.append.new.text.items ≡ first_line = rw (c.in_ok-append.ensures, c.new-text.ensures.items, c.as_bytes.ensures.value, c.first_line.ensures) refl in
    (first ∙ sym (unit-first c.args.seed), refl, rw first (lit≤ tt))

pub lines-preserved : goal.lines-preserved
lines-preserved c =
    let state : c.next_state-state.result ≡ state_after c.args.seed (c.lines.number + 1) =
    c.next_state-state.ensures ∙ ap next_state c.lines.invariant.1 ∙ sym (state-next c.args.seed c.lines.number) in
    let grown = c.in_ok-append_line.ensures in
    let short : length (line (c.lines.number + 1) c.next_state-state.result) ≤ 80 =
    line_short (c.lines.number + 1) c.next_state-state.result (omega arith) (omega arith) in (
      grown ∙ ap₂ (λ t s. t ++ line (c.lines.number + 1) s) c.lines.invariant.0 state ∙ sym (unit-next c.args.seed c.lines.number),
      state,
      rw (grown, length-append) (omega (arith, short, c.lines.invariant.2)),
    )
