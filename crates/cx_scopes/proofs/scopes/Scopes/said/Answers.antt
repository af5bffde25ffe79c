use Rattle.std.proofs.Common.{◌∙◌, ap, sym, reverse}
use Rattle.std.specs.Option.{option_copied}
use Rattle.cx_scopes.specs.Lookup.{or_else, said_from}
use Rattle.cx_scopes.proofs.Agreed.{is-empty, not-empty}
use Rattle.cx_scopes.proofs.Outwards.{none-left, or_else-nothing, or_else-some, said-last}
use Rattle.cx_scopes.proofs.scopes.Scopes.said.Goals as goal

pub loop-entered-init : goal.loop-entered-init
loop-entered-init c =
    ap (λ l. said_from c.args.self.now c.args.sought l c.args.name.now)
    (sym (ap (λ v. v.entered) c.self.view_is)
    ∙ ap reverse (sym (ap (λ r. r.iter.rest.now) c.into_iter-entered-iterator.ensures.into_iter_gives
    ∙ ap (λ i. i.rest.now) c.rev-entered-items.ensures.source ∙ c.iter.ensures.rest ∙ c.deref.ensures.value)))

pub returns-in_err-said : goal.returns-in_err-said
returns-in_err-said c =
    let rest = said_from c.args.self.now c.args.sought (reverse c.next.new.self.iter.rest.now) c.args.name.now in
    ap option_copied c.from_residual.ensures
    ∙ sym (c.loop-entered.invariant
    ∙ said-last c.args.self.now c.args.sought c.args.name.now c.loop-entered.entered-iterator.iter.rest.now c.next.new.self.iter.rest.now c.in-Some.entered.now c.in-Some.ensures.steps
    ∙ ap (λ o. or_else o rest) (sym c.said_by.ensures ∙ ap option_copied c.in_err-said.was))

pub returns-then-not-is_empty : goal.returns-then-not-is_empty
returns-then-not-is_empty c =
    let rest = said_from c.args.self.now c.args.sought (reverse c.next.new.self.iter.rest.now) c.args.name.now in
    sym (c.loop-entered.invariant
    ∙ said-last c.args.self.now c.args.sought c.args.name.now c.loop-entered.entered-iterator.iter.rest.now c.next.new.self.iter.rest.now c.in-Some.entered.now c.in-Some.ensures.steps
    ∙ ap (λ o. or_else o rest) (sym c.said_by.ensures ∙ ap option_copied c.in_ok-said.was)
    ∙ or_else-some c.in_ok-said.said.now rest (not-empty _ (sym c.is_empty.ensures ∙ c.if-not-is_empty.true)))

pub loop-entered-preserved : goal.loop-entered-preserved
loop-entered-preserved c =
    let rest = said_from c.args.self.now c.args.sought (reverse c.next.new.self.iter.rest.now) c.args.name.now in
    c.loop-entered.invariant
    ∙ said-last c.args.self.now c.args.sought c.args.name.now c.loop-entered.entered-iterator.iter.rest.now c.next.new.self.iter.rest.now c.in-Some.entered.now c.in-Some.ensures.steps
    ∙ ap (λ o. or_else o rest) (sym c.said_by.ensures ∙ ap option_copied c.in_ok-said.was)
    ∙ or_else-nothing c.in_ok-said.said.now rest (is-empty _ (sym c.is_empty.ensures ∙ c.if-not-is_empty.false))

pub returns : goal.returns
returns c =
    c.said_in.ensures
    ∙ sym (c.loop-entered.invariant ∙ ap (λ l. said_from c.args.self.now c.args.sought l c.args.name.now) (none-left c.loop-entered.entered-iterator.iter.rest.now c.in-None.ensures.steps.0))
