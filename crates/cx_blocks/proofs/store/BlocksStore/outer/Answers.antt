use Rattle.std.proofs.Common.{refl, sym, subst}
use Rattle.std.specs.Prelude.{option_and_then, unwrap_or, slice_get, Result}
use Rattle.cx_base.specs.declared.rule.Rule.{Rule}
use Rattle.cx_state.specs.Objects.{Object}
use Rattle.cx_state.specs.Conditions as on
use Rattle.cx_state.specs.Steps as steps
use Rattle.cx_layout.specs.declared.place.Place.{Place}
use Rattle.cx_layout.specs.Paths.{SameAnswer}
use Rattle.cx_layout.specs.Described.{form_at}
use Rattle.cx_layout.proofs.Onward.{same_outer}
use Rattle.cx_blocks.specs.Stored.{objects, path}
use Rattle.cx_blocks.proofs.Reaching.{known_block, steps_lead}
use Rattle.cx_blocks.proofs.Moving.{outer_dangles, whole_object, standing, tells, is_here, answers}
use Rattle.cx_blocks.proofs.store.BlocksStore.outer.Goals as goal

pub block-block-requires : goal.block-block-requires
block-block-requires c = known_block c.args.types.now c.args.self.now.layouts c.args.self.now.blocks.items c.args.at c.requires.known

pub outer-requires-clause-known : goal.outer-requires-clause-known
outer-requires-clause-known c = c.args.self.now.known c.args.at.block c.block-block.result.now c.block-block.ensures

pub outer-requires-clause-place : goal.outer-requires-clause-place
outer-requires-clause-place c =
    let s = c.args.self.now in
    is_here c.args.types.now s.layouts s.blocks.items c.args.at c.block-block.result.now c.block-block.ensures c.sound.ensures s.live c.requires.fits c.if-block.false s.known c.requires.known

pub returns-then-block-clause-gives : goal.returns-then-block-clause-gives
returns-then-block-clause-gives c =
    let s = c.args.self.now in
    let t = c.args.types.now in
    let p = path s c.args.at in
    sym (outer_dangles t s.layouts s.blocks.items c.args.at c.block-block.result.now c.block-block.ensures c.args.to (steps.whole_path p (unwrap_or (option_and_then (λ (o : Object). on.outer_in t o c.args.to p.steps) (slice_get (objects s) p.object)) p.steps)) c.if-block.true)

pub returns : goal.returns
returns c =
    let s = c.args.self.now in
    let t = c.args.types.now in
    let p = path s c.args.at in
    let b = c.block-block.result.now in
    let e = c.block-block.ensures in
    let f = form_at s.layouts b.desc in
    let a = answers t s.layouts s.blocks.items c.args.at b e c.sound.ensures s.live c.requires.fits c.if-block.false c.outer.result (steps.outer t (objects s) p c.args.to)
    (λ q z. whole_object (on.broken t (objects s) p (on.Outer c.args.to)) p (unwrap_or (option_and_then (λ (o : Object). on.outer_in t o c.args.to p.steps) (slice_get (objects s) p.object)) p.steps) q z)
    (subst (λ (r : Result Place Rule). SameAnswer f r (steps.outer t (objects s) p c.args.to)) (sym (c.outer.ensures p.steps (steps_lead t s.layouts s.blocks.items s.known c.args.at b e c.requires.known)))
    (same_outer t c.sound.ensures (objects s) f c.args.at p (standing t s.layouts s.blocks.items c.args.at b e c.sound.ensures s.live c.requires.fits c.if-block.false c.args.at.block refl) (tells t s.layouts s.blocks.items c.args.at b e c.sound.ensures s.live c.requires.fits c.if-block.false s.known c.requires.known) c.args.to)) in
    record { gives = a.gives; known = a.known }
