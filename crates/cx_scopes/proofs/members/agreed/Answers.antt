use Rattle.std.proofs.Common.{◌∙◌, sym, ap, Some}
use Rattle.cx_scopes.specs.Lookup.{together}
use Rattle.cx_scopes.proofs.Agreed.{together-same, together-apart, together-empty, is-empty, not-empty}
use Rattle.cx_scopes.proofs.members.agreed.Goals as goal
use Rattle.cx_scopes.proofs.members.agreed.Goals.{then-is_empty-2-via-then-is_empty-2, then-is_empty-2-via-else-is_empty-2+then-eq}

pub returns-then-is_empty-2 : goal.returns-then-is_empty-2
returns-then-is_empty-2 c = elim c.then-is_empty-2.branch [
  | then-is_empty-2-via-then-is_empty-2 w ↦
      together-empty c.args.sum.now (not-empty _ (sym c.is_empty.ensures ∙ c.if-is_empty.false))
      ∙ sym (ap (λ es. together (Some c.args.sum.now) (Some es)) (is-empty _ (sym c.is_empty-2.ensures ∙ w.if-is_empty-2.true)))
  | then-is_empty-2-via-else-is_empty-2+then-eq w ↦
      together-same c.args.sum.now c.args.other.now (not-empty _ (sym c.is_empty.ensures ∙ c.if-is_empty.false))
      (not-empty _ (sym c.is_empty-2.ensures ∙ w.if-is_empty-2.false)) (sym w.eq.ensures ∙ w.if-eq.true)
]

pub returns : goal.returns
returns c =
    together-apart c.args.sum.now c.args.other.now (not-empty _ (sym c.is_empty.ensures ∙ c.if-is_empty.false))
    (not-empty _ (sym c.is_empty-2.ensures ∙ c.if-is_empty-2.false)) (sym c.eq.ensures ∙ c.if-eq.false)
