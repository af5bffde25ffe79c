use Rattle.std.proofs.Common.{true, false, Some, Ok, [], ◌∷◌, refl, sym, ap, subst, ◌∙◌}
use Rattle.cx_layout.specs.Described.{columns_form, form_at}
use Rattle.cx_layout.specs.Forms.{Form}
use Rattle.cx_state.specs.Conditions.{is_opaque}
use Rattle.cx_slot_places.specs.Lives.{Tells, dynamic_of}
use Rattle.cx_slot_places.proofs.Answering.{dynamic_is}
use Rattle.cx_blocks.specs.Seen.{object_in}
use Rattle.cx_blocks.specs.Stored.{objects, path}
use Rattle.cx_blocks.proofs.Objects.{the_object}
use Rattle.cx_blocks.proofs.Reaching.{known_block}
use Rattle.cx_blocks.proofs.Accesses.{shows, many, class_at, decided_dangling, decided_past}
use Rattle.cx_blocks.proofs.Moving.{decided}
use Rattle.cx_blocks.proofs.store.BlocksStore.dynamic_class.Goals as goal

pub block-block-requires : goal.block-block-requires
block-block-requires c = known_block c.args.types.now c.args.self.now.layouts c.args.self.now.blocks.items c.args.at c.requires.known

pub columns-columns-requires : goal.columns-columns-requires
columns-columns-requires c = record { known = c.args.self.now.known c.args.at.block c.block-block.result.now c.block-block.ensures }

pub dynamic_at-requires-clause-slots : goal.dynamic_at-requires-clause-slots
dynamic_at-requires-clause-slots c = λ h.
    let s = c.args.self.now in
    let b = c.block-block.result.now in
    many c.args.types.now s.layouts s.blocks.items c.args.at b c.block-block.ensures s.live c.requires.fits c.if-block.false (sym c.is_opaque.ensures ∙ h) (columns_form c.columns-columns.result.now) c.as_slice.result.now c.columns-columns.ensures.form c.as_slice.ensures.value

pub dynamic_at-requires-clause-class : goal.dynamic_at-requires-clause-class
dynamic_at-requires-clause-class c =
    let s = c.args.self.now in
    let k = class_at c.args.types.now s.layouts s.blocks.items c.args.at c.block-block.result.now c.block-block.ensures s.known c.requires.known c.sound.ensures s.live c.requires.fits c.if-at.false (columns_form c.columns-columns.result.now) c.columns-columns.ensures.form c.requires.class in
    record { steps = (path s c.args.at).steps; class = k.0; bases = k.1; members = k.2; is_at = k.3 }

pub returns-then-block-clause-gives : goal.returns-then-block-clause-gives
returns-then-block-clause-gives c =
    let s = c.args.self.now in
    sym (decided_dangling c.args.types.now s.layouts s.blocks.items c.args.at c.block-block.result.now c.block-block.ensures c.if-block.true)

pub returns-then-at-clause-gives : goal.returns-then-at-clause-gives
returns-then-at-clause-gives c =
    let s = c.args.self.now in
    sym (decided_past c.args.types.now s.layouts s.blocks.items c.args.at c.block-block.result.now c.block-block.ensures c.if-block.false c.if-at.true)

pub returns : goal.returns
returns c =
    let s = c.args.self.now in
    let t = c.args.types.now in
    let b = c.block-block.result.now in
    let e = c.block-block.ensures in
    let p = path s c.args.at in
    let o = object_in (path s) s.layouts b in
    let f = columns_form c.columns-columns.result.now in
    let k = class_at t s.layouts s.blocks.items c.args.at b e s.known c.requires.known c.sound.ensures s.live c.requires.fits c.if-at.false f c.columns-columns.ensures.form c.requires.class in
    let x = c.dynamic_at.ensures (path s) o.tree p.steps k.0 k.1 k.2 (λ h. shows t s.layouts s.blocks.items c.args.at b e s.live c.requires.fits c.if-block.false (sym c.is_opaque.ensures ∙ h) f c.as_slice.result.now c.columns-columns.ensures.form c.as_slice.ensures.value) k.3 in
    let y = subst (λ (g : Form). Tells g c.args.at.block c.dynamic_at.result (dynamic_of g c.is_opaque.result o.tree p.steps)) c.columns-columns.ensures.form x in
    let z = subst (λ q. Tells (form_at s.layouts b.desc) c.args.at.block c.dynamic_at.result (dynamic_of (form_at s.layouts b.desc) q o.tree p.steps)) c.is_opaque.ensures y in
    let d = decided t s.layouts s.blocks.items c.args.at b e c.sound.ensures s.live c.requires.fits c.if-block.false c.dynamic_at.result (dynamic_of (form_at s.layouts b.desc) (is_opaque b.birth) o.tree p.steps) z in
    record {
      gives = d.gives ∙ sym (dynamic_is t (objects s) p o (the_object s.layouts s.blocks.items c.args.at.block b e) c.if-block.false c.if-at.false c.sound.ensures (form_at s.layouts b.desc) (c.requires.fits.each c.args.at.block b e).form);
      known = d.known;
    }
