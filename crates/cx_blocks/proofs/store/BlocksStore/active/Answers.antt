use Rattle.std.proofs.Common.{Some, [], ◌∷◌, refl, sym, ap, ◌∙◌}
use Rattle.cx_base.specs.declared.rule.Rule.TheVariants as rule
use Rattle.cx_state.specs.Objects.{at as stands_at}
use Rattle.cx_state.specs.Conditions as on
use Rattle.cx_state.specs.Steps.{unless, member_of}
use Rattle.cx_layout.specs.Described.{columns_form}
use Rattle.cx_slot_places.proofs.Answering.{active_is}
use Rattle.cx_blocks.specs.Seen.{object_in}
use Rattle.cx_blocks.specs.Stored.{objects, path}
use Rattle.cx_blocks.proofs.Objects.{the_object}
use Rattle.cx_blocks.proofs.Reaching.{known_block}
use Rattle.cx_blocks.proofs.Accesses.{barred_none, reading_barred, shows, many, union_at}
use Rattle.cx_blocks.proofs.store.BlocksStore.active.Goals as goal

pub block-block-requires : goal.block-block-requires
block-block-requires c = known_block c.args.types.now c.args.self.now.layouts c.args.self.now.blocks.items c.args.at c.requires.known

pub columns-requires : goal.columns-requires
columns-requires c = record { known = c.args.self.now.known c.args.at.block c.block-block.result.now c.block-block.ensures }

pub active_at-requires-clause-slots : goal.active_at-requires-clause-slots
active_at-requires-clause-slots c =
    let s = c.args.self.now in
    let b = c.block-block.result.now in
    let n = barred_none b.released c.args.at.past (on.is_opaque b.birth) rule.NotUsable (sym c.unreadable.ensures ∙ c.in-None.is) in
    many c.args.types.now s.layouts s.blocks.items c.args.at b c.block-block.ensures s.live c.requires.fits n.0 n.2 (columns_form c.columns.result.now) c.as_slice.result.now c.columns.ensures.form c.as_slice.ensures.value

pub active_at-requires-clause-union : goal.active_at-requires-clause-union
active_at-requires-clause-union c =
    let s = c.args.self.now in
    let b = c.block-block.result.now in
    let n = barred_none b.released c.args.at.past (on.is_opaque b.birth) rule.NotUsable (sym c.unreadable.ensures ∙ c.in-None.is) in
    let k = union_at c.args.types.now s.layouts s.blocks.items c.args.at b c.block-block.ensures s.known c.requires.known c.sound.ensures s.live c.requires.fits n.1 (columns_form c.columns.result.now) c.columns.ensures.form c.requires.union in
    record { steps = (path s c.args.at).steps; class = k.0; members = k.1; is_at = k.2 }

pub returns-in-Some : goal.returns-in-Some
returns-in-Some c =
    let s = c.args.self.now in
    let r = reading_barred c.args.types.now s.layouts s.blocks.items c.args.at c.block-block.result.now c.block-block.ensures on.Which (rule.InactiveMember ∷ rule.OutOfLifetime ∷ []) c.in-Some.rule refl (sym c.unreadable.ensures ∙ c.in-Some.is) in
    record { gives = sym (ap (λ o. unless o (member_of (stands_at (objects s) (path s c.args.at)))) r) }

pub returns-in-None : goal.returns-in-None
returns-in-None c =
    let s = c.args.self.now in
    let t = c.args.types.now in
    let b = c.block-block.result.now in
    let p = path s c.args.at in
    let o = object_in (path s) s.layouts b in
    let n = barred_none b.released c.args.at.past (on.is_opaque b.birth) rule.NotUsable (sym c.unreadable.ensures ∙ c.in-None.is) in
    let f = columns_form c.columns.result.now in
    let k = union_at t s.layouts s.blocks.items c.args.at b c.block-block.ensures s.known c.requires.known c.sound.ensures s.live c.requires.fits n.1 f c.columns.ensures.form c.requires.union in
    record {
      gives = c.active_at.ensures (path s) o.tree p.steps k.0 k.1 (shows t s.layouts s.blocks.items c.args.at b c.block-block.ensures s.live c.requires.fits n.0 n.2 f c.as_slice.result.now c.columns.ensures.form c.as_slice.ensures.value) k.2
          ∙ sym (active_is t (objects s) p o (the_object s.layouts s.blocks.items c.args.at.block b c.block-block.ensures) n.0 n.1 n.2);
    }
