use Rattle.std.proofs.Common.{ap, sym, ◌∙◌}
use Rattle.cx_state.specs.declared.kind.Scalar.TheVariants as scalar
use Rattle.use_store.proofs.Elements.{scalar_element, takes_element, still_array, init_length}
use Rattle.cx_state_kept.proofs.Keeping.{then_keeps}
use Rattle.use_store.proofs.fill.Goals as goal

pub init-requires-clause-scalar : goal.init-requires-clause-scalar
init-requires-clause-scalar g c =
    scalar_element _ _ _ _ c.args.of c.args.count c.loop-next.next c.args.value
    (still_array _ _ _ _ _ _ _ (ap (λ f. f c.args.array) c.loop-next.invariant.1) c.loop-next.invariant.2 c.requires.array)
    c.requires.takes c.loop-next-test.true (sym c.in_ok-element.ensures.gives)

pub init-requires-clause-holds : goal.init-requires-clause-holds
init-requires-clause-holds g c =
    takes_element _ _ _ _ c.args.of c.args.count c.loop-next.next c.args.value
    (still_array _ _ _ _ _ _ _ (ap (λ f. f c.args.array) c.loop-next.invariant.1) c.loop-next.invariant.2 c.requires.array)
    c.requires.takes c.loop-next-test.true (sym c.in_ok-element.ensures.gives)

pub loop-next-preserved : goal.loop-next-preserved
loop-next-preserved g c =
    let i = c.loop-next.invariant in
    let e = c.in_ok-init.ensures in
    (e.fit, e.paths ∙ i.1, then_keeps _ _ _ i.2 e.knows, init_length c.args.types.now _ _ (g.S.Store.path c.loop-next.store c.in_ok-element.element) (scalar.Int c.args.value) _ e.changed ∙ i.3)
