use Rattle.std.proofs.Common.{false, refl, sym}
use Rattle.cx_type_defs.specs.declared.ids.Step.TheVariants as step
use Rattle.cx_state.specs.Places.{row_of}
use Rattle.cx_state.specs.Conditions as on
use Rattle.cx_state.specs.Steps as steps
use Rattle.cx_layout.proofs.Onward.{same_steps}
use Rattle.cx_blocks.specs.Stored.{objects, path}
use Rattle.cx_blocks.proofs.Reaching.{known_block}
use Rattle.cx_blocks.proofs.Moving.{step_dangles, step_object, standing, tells, is_here, can_part, answers}
use Rattle.cx_blocks.specs.Seen.{objects_in}
use Rattle.cx_layout.specs.Described.{form_at}
use Rattle.cx_blocks.proofs.store.BlocksStore.base.Goals as goal

pub block-block-requires : goal.block-block-requires
block-block-requires c = known_block c.args.types.now c.args.self.now.layouts c.args.self.now.blocks.items c.args.at c.requires.known

pub base-requires-clause-known : goal.base-requires-clause-known
base-requires-clause-known c = c.args.self.now.known c.args.at.block c.block-block.result.now c.block-block.ensures

pub base-requires-clause-place : goal.base-requires-clause-place
base-requires-clause-place c =
    let s = c.args.self.now in
    is_here c.args.types.now s.layouts s.blocks.items c.args.at c.block-block.result.now c.block-block.ensures c.sound.ensures s.live c.requires.fits c.if-block.false s.known c.requires.known

pub base-requires-clause-base : goal.base-requires-clause-base
base-requires-clause-base c = λ h.
    let s = c.args.self.now in
    let t = c.args.types.now in
    can_part t s.layouts s.blocks.items c.args.at c.block-block.result.now c.block-block.ensures c.sound.ensures s.live c.requires.fits c.if-block.false s.known c.requires.known h (step.Base c.args.index) c.requires.there

pub returns-then-block-clause-gives : goal.returns-then-block-clause-gives
returns-then-block-clause-gives c =
    let s = c.args.self.now in
    let t = c.args.types.now in
    let p = path s c.args.at in
    sym (step_dangles t s.layouts s.blocks.items c.args.at c.block-block.result.now c.block-block.ensures (steps.deeper p (step.Base c.args.index) false) c.if-block.true)

pub returns : goal.returns
returns c =
    let s = c.args.self.now in
    let t = c.args.types.now in
    let p = path s c.args.at in
    let b = c.block-block.result.now in
    let e = c.block-block.ensures in
    let f = form_at s.layouts b.desc in
    let a = answers t s.layouts s.blocks.items c.args.at b e c.sound.ensures s.live c.requires.fits c.if-block.false c.base.result (steps.to_base t (objects s) p c.args.index)
    (λ q z. step_object (on.broken t (objects s) p on.Part) p (step.Base c.args.index) false q z)
    (same_steps t c.sound.ensures (objects s) f c.args.at p (standing t s.layouts s.blocks.items c.args.at b e c.sound.ensures s.live c.requires.fits c.if-block.false c.args.at.block refl) (tells t s.layouts s.blocks.items c.args.at b e c.sound.ensures s.live c.requires.fits c.if-block.false s.known c.requires.known) (step.Base c.args.index) c.base.result c.base.ensures) in
    record { gives = a.gives; known = a.known }
