use Rattle.std.proofs.Common.{Some, [], ◌∷◌, refl, sym, ap, ◌∙◌}
use Rattle.cx_base.specs.declared.rule.Rule.TheVariants as rule
use Rattle.cx_state.specs.Objects.{at as stands_at}
use Rattle.cx_state.specs.Conditions as on
use Rattle.cx_state.specs.Steps.{unless, scalar_of}
use Rattle.cx_state_kept.proofs.Reading.{answer_known, answer_holds}
use Rattle.cx_layout.specs.Described.{columns_form}
use Rattle.cx_slot_calls.proofs.Breaking.{loads_as}
use Rattle.cx_blocks.specs.Seen.{paths_in, object_in}
use Rattle.cx_blocks.specs.Stored.{objects, path}
use Rattle.cx_blocks.proofs.Objects.{the_object}
use Rattle.cx_blocks.proofs.Reaching.{known_block}
use Rattle.cx_blocks.proofs.Accesses.{barred_none, reading_barred, shows, many, scalar_at}
use Rattle.cx_blocks.proofs.store.BlocksStore.load.Goals as goal

pub block-block-requires : goal.block-block-requires
block-block-requires c = known_block c.args.types.now c.args.self.now.layouts c.args.self.now.blocks.items c.args.at c.requires.known

pub columns-requires : goal.columns-requires
columns-requires c = record { known = c.args.self.now.known c.args.at.block c.block-block.result.now c.block-block.ensures }

pub load_at-requires-clause-slots : goal.load_at-requires-clause-slots
load_at-requires-clause-slots c =
    let s = c.args.self.now in
    let b = c.block-block.result.now in
    let n = barred_none b.released c.args.at.past (on.is_opaque b.birth) rule.NotUsable (sym c.unreadable.ensures ∙ c.in-None.is) in
    many c.args.types.now s.layouts s.blocks.items c.args.at b c.block-block.ensures s.live c.requires.fits n.0 n.2 (columns_form c.columns.result.now) c.as_slice.result.now c.columns.ensures.form c.as_slice.ensures.value

pub load_at-requires-clause-scalar : goal.load_at-requires-clause-scalar
load_at-requires-clause-scalar c =
    let s = c.args.self.now in
    let b = c.block-block.result.now in
    let n = barred_none b.released c.args.at.past (on.is_opaque b.birth) rule.NotUsable (sym c.unreadable.ensures ∙ c.in-None.is) in
    ((path s c.args.at).steps, scalar_at c.args.types.now s.layouts s.blocks.items c.args.at b c.block-block.ensures s.known c.requires.known c.sound.ensures s.live c.requires.fits n.1 (columns_form c.columns.result.now) c.columns.ensures.form c.requires.scalar)

pub returns-in-Some-clause-gives : goal.returns-in-Some-clause-gives
returns-in-Some-clause-gives c =
    let s = c.args.self.now in
    let r = reading_barred c.args.types.now s.layouts s.blocks.items c.args.at c.block-block.result.now c.block-block.ensures on.Load (rule.InactiveMember ∷ rule.OutOfLifetime ∷ rule.Indeterminate ∷ []) c.in-Some.rule refl (sym c.unreadable.ensures ∙ c.in-Some.is) in
    sym (ap (λ o. unless o (scalar_of (stands_at (objects s) (path s c.args.at)))) r)

pub returns-in-None-clause-gives : goal.returns-in-None-clause-gives
returns-in-None-clause-gives c =
    let s = c.args.self.now in
    let t = c.args.types.now in
    let b = c.block-block.result.now in
    let p = path s c.args.at in
    let o = object_in (paths_in s.layouts s.blocks.items) s.layouts b in
    let n = barred_none b.released c.args.at.past (on.is_opaque b.birth) rule.NotUsable (sym c.unreadable.ensures ∙ c.in-None.is) in
    let f = columns_form c.columns.result.now in
    c.load_at.ensures (path s) o.tree p.steps (shows t s.layouts s.blocks.items c.args.at b c.block-block.ensures s.live c.requires.fits n.0 n.2 f c.as_slice.result.now c.columns.ensures.form c.as_slice.ensures.value)
    (scalar_at t s.layouts s.blocks.items c.args.at b c.block-block.ensures s.known c.requires.known c.sound.ensures s.live c.requires.fits n.1 f c.columns.ensures.form c.requires.scalar)
    ∙ sym (loads_as t (objects s) p o (the_object s.layouts s.blocks.items c.args.at.block b c.block-block.ensures) n.0 n.1 n.2)

pub returns-in-None-clause-known : goal.returns-in-None-clause-known
returns-in-None-clause-known c =
    let s = c.args.self.now in
    answer_known c.args.types.now (objects s) (path s) (path s c.args.at) c.load_at.result c.requires.fits.fit c.requires.known (returns-in-None-clause-gives c)

pub returns-in-None-clause-holds : goal.returns-in-None-clause-holds
returns-in-None-clause-holds c =
    let s = c.args.self.now in
    answer_holds c.args.types.now (objects s) (path s) (path s c.args.at) c.load_at.result c.requires.fits.fit c.requires.known (returns-in-None-clause-gives c)
