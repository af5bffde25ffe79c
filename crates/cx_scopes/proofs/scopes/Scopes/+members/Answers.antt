use Rattle.std.proofs.Common.{◌∙◌, ◌+◌, ◌-◌, sym, ap, Some}
use Rattle.std.specs.Option.{option_copied}
use Rattle.cx_type_defs.specs.declared.ids.ClassId.{ClassId}
use Rattle.cx_scopes.specs.Names.{counted}
use Rattle.cx_scopes.specs.Lookup.{together, said_together, members}
use Rattle.cx_scopes.proofs.Agreed.{is-empty, not-empty, members-own, members-bases, members-none, said-next, said-stops, said-whole, together-none}
use Rattle.cx_scopes.proofs.scopes.Scopes.+members.Goals as goal

pub returns-then-levels-eq0 : goal.returns-then-levels-eq0
returns-then-levels-eq0 t c = members-none c.args.self.now c.args.sought c.args.levels c.args.class c.args.name.now c.if-levels-eq0.true

pub returns-then-not-is_empty : goal.returns-then-not-is_empty
returns-then-not-is_empty t c =
    let own = c.counted-own.ensures ∙ ap (counted c.args.sought) c.meanings_at.ensures in
    ap Some own
    ∙ members-own c.args.self.now c.args.sought c.args.levels c.args.class c.args.name.now c.if-levels-eq0.false
    (λ e. not-empty _ (sym c.is_empty.ensures ∙ c.if-not-is_empty.true) (own ∙ e))

pub returns-in_err-said : goal.returns-in_err-said
returns-in_err-said t c =
    let s = c.args.self.now in
    let said = λ (b : ClassId). members s c.args.sought (c.args.levels - 1) b c.args.name.now in
    let own = c.counted-own.ensures ∙ ap (counted c.args.sought) c.meanings_at.ensures in
    let opens = members-bases s c.args.sought c.args.levels c.args.class c.args.name.now c.if-levels-eq0.false (sym own ∙ is-empty _ (sym c.is_empty.ensures ∙ c.if-not-is_empty.false)) in
    ap option_copied c.from_residual.ensures
    ∙ sym (opens ∙ ap (said_together said) (sym c.bases_of-base-items.ensures)
    ∙ said-stops said c.bases_of-base-items.result.now (c.loop-base.base-index + 1)
    (said-next said c.bases_of-base-items.result.now c.loop-base.base-index (record { 0 = 0 }) c.loop-base.sum.now c.loop-base-test.true c.loop-base.invariant
    ∙ ap (together (Some c.loop-base.sum.now)) (sym c.members.ensures ∙ ap option_copied c.in_err-said.was)
    ∙ together-none c.loop-base.sum.now))

pub returns-in_err-sum : goal.returns-in_err-sum
returns-in_err-sum t c =
    let s = c.args.self.now in
    let said = λ (b : ClassId). members s c.args.sought (c.args.levels - 1) b c.args.name.now in
    let own = c.counted-own.ensures ∙ ap (counted c.args.sought) c.meanings_at.ensures in
    let opens = members-bases s c.args.sought c.args.levels c.args.class c.args.name.now c.if-levels-eq0.false (sym own ∙ is-empty _ (sym c.is_empty.ensures ∙ c.if-not-is_empty.false)) in
    ap option_copied c.from_residual-in_err-sum.ensures
    ∙ sym (opens ∙ ap (said_together said) (sym c.bases_of-base-items.ensures)
    ∙ said-stops said c.bases_of-base-items.result.now (c.loop-base.base-index + 1)
    (said-next said c.bases_of-base-items.result.now c.loop-base.base-index (record { 0 = 0 }) c.loop-base.sum.now c.loop-base-test.true c.loop-base.invariant
    ∙ ap (together (Some c.loop-base.sum.now)) (sym c.members.ensures ∙ ap option_copied c.in_ok-said.was)
    ∙ sym c.agreed.ensures ∙ ap option_copied c.in_err-sum.was))

pub loop-base-preserved : goal.loop-base-preserved
loop-base-preserved t c =
    let said = λ (b : ClassId). members c.args.self.now c.args.sought (c.args.levels - 1) b c.args.name.now in
    said-next said c.bases_of-base-items.result.now c.loop-base.base-index (record { 0 = 0 }) c.loop-base.sum.now c.loop-base-test.true c.loop-base.invariant
    ∙ ap (together (Some c.loop-base.sum.now)) (sym c.members.ensures ∙ ap option_copied c.in_ok-said.was)
    ∙ sym c.agreed.ensures ∙ ap option_copied c.in_ok-sum.was

pub returns : goal.returns
returns t c =
    let s = c.args.self.now in
    let said = λ (b : ClassId). members s c.args.sought (c.args.levels - 1) b c.args.name.now in
    let own = c.counted-own.ensures ∙ ap (counted c.args.sought) c.meanings_at.ensures in
    let opens = members-bases s c.args.sought c.args.levels c.args.class c.args.name.now c.if-levels-eq0.false (sym own ∙ is-empty _ (sym c.is_empty.ensures ∙ c.if-not-is_empty.false)) in
    sym (opens ∙ ap (said_together said) (sym c.bases_of-base-items.ensures)
    ∙ said-whole said c.bases_of-base-items.result.now c.loop-base.base-index c.loop-base.sum.now c.loop-base-test.false c.loop-base.invariant)
