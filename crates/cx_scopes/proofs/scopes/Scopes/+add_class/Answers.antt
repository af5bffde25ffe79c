use Rattle.std.proofs.Common.{◌∙◌, ◌-◌, sym, ap}
use Rattle.cx_scopes.specs.Arguments.{class_spaces, listed, with_spaces}
use Rattle.cx_scopes.proofs.Associated.{class-added, class_spaces-none, spaces-next}
use Rattle.cx_scopes.proofs.scopes.Scopes.+add_class.Goals as goal

pub returns-then-levels-eq0-clause-ok : goal.returns-then-levels-eq0-clause-ok
returns-then-levels-eq0-clause-ok t c =
    c.in_ok-add_if.ensures.ok
    ∙ ap (with_spaces c.args.spaces.now) (ap listed c.class_space.ensures ∙ sym (class_spaces-none c.args.self.now c.args.types.now c.args.levels c.args.class c.if-levels-eq0.true))

pub loop-base-preserved : goal.loop-base-preserved
loop-base-preserved t c =
    c.in_ok-add_class.ensures.ok
    ∙ spaces-next (class_spaces c.args.self.now c.args.types.now (c.args.levels - 1)) c.add_if.new.spaces c.loop-base.spaces c.bases_of-base-items.result.now c.loop-base.base-index (record { 0 = 0 })
    c.loop-base-test.true c.loop-base.invariant

pub returns-clause-ok : goal.returns-clause-ok
returns-clause-ok t c =
    class-added c.args.self.now c.args.types.now c.args.levels c.args.class c.args.spaces.now c.add_if.new.spaces c.loop-base.spaces c.bases_of-base-items.result.now c.loop-base.base-index
    c.if-levels-eq0.false (c.in_ok-add_if.ensures.ok ∙ ap (λ o. with_spaces c.args.spaces.now (listed o)) c.class_space.ensures)
    c.bases_of-base-items.ensures c.loop-base-test.false c.loop-base.invariant
