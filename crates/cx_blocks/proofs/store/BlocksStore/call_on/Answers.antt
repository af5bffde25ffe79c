use Rattle.std.proofs.Common.{true, false, Some, Ok, [], ◌∷◌, refl, sym, ap, ◌∙◌, if◌then◌else◌}
use Rattle.cx_layout.specs.Described.{columns_form}
use Rattle.cx_slot_places.specs.Lives.{call_of}
use Rattle.cx_slot_places.proofs.Answering.{call_is}
use Rattle.cx_blocks.specs.Seen.{object_in}
use Rattle.cx_blocks.specs.Stored.{objects, path}
use Rattle.cx_blocks.proofs.Objects.{the_object}
use Rattle.cx_blocks.proofs.Reaching.{known_block}
use Rattle.cx_blocks.proofs.Accesses.{shows, many, leads_at, there, called_dangling, called_past}
use Rattle.cx_blocks.proofs.store.BlocksStore.call_on.Goals as goal

pub block-block-requires : goal.block-block-requires
block-block-requires c = known_block c.args.types.now c.args.self.now.layouts c.args.self.now.blocks.items c.args.at c.requires.known

pub columns-requires : goal.columns-requires
columns-requires c = record { known = c.args.self.now.known c.args.at.block c.block-block.result.now c.block-block.ensures }

pub call_at-requires-clause-slots : goal.call_at-requires-clause-slots
call_at-requires-clause-slots c =
    let s = c.args.self.now in
    let b = c.block-block.result.now in
    many c.args.types.now s.layouts s.blocks.items c.args.at b c.block-block.ensures s.live c.requires.fits c.if-block.false (sym c.is_opaque.ensures ∙ c.if-is_opaque.false) (columns_form c.columns.result.now) c.as_slice.result.now c.columns.ensures.form c.as_slice.ensures.value

pub call_at-requires-clause-place : goal.call_at-requires-clause-place
call_at-requires-clause-place c =
    let s = c.args.self.now in
    let t = c.args.types.now in
    let b = c.block-block.result.now in
    let r = there t s.layouts s.blocks.items c.args.at b c.block-block.ensures s.known c.requires.known c.sound.ensures s.live c.requires.fits c.if-at.false in
    (r.part.form, ((path s c.args.at).steps, leads_at t s.layouts s.blocks.items c.args.at b c.block-block.ensures s.known c.requires.known c.sound.ensures s.live c.requires.fits c.if-at.false (columns_form c.columns.result.now) r.part.form c.columns.ensures.form refl))

pub returns-then-block : goal.returns-then-block
returns-then-block c =
    let s = c.args.self.now in
    record { gives = sym (called_dangling c.args.types.now s.layouts s.blocks.items c.args.at c.block-block.result.now c.block-block.ensures c.if-block.true) }

pub returns-then-at : goal.returns-then-at
returns-then-at c =
    let s = c.args.self.now in
    record { gives = sym (called_past c.args.types.now s.layouts s.blocks.items c.args.at c.block-block.result.now c.block-block.ensures c.if-block.false c.if-at.true) }

pub returns-then-is_opaque : goal.returns-then-is_opaque
returns-then-is_opaque c =
    let s = c.args.self.now in
    let b = c.block-block.result.now in
    let p = path s c.args.at in
    let o = object_in (path s) s.layouts b in
    record { gives = sym (call_is c.args.types.now (objects s) p o (the_object s.layouts s.blocks.items c.args.at.block b c.block-block.ensures) c.if-block.false c.if-at.false ∙ ap (λ x. if x then Ok tt else call_of o.tree p.steps) (sym c.is_opaque.ensures ∙ c.if-is_opaque.true)) }

pub returns : goal.returns
returns c =
    let s = c.args.self.now in
    let t = c.args.types.now in
    let b = c.block-block.result.now in
    let e = c.block-block.ensures in
    let p = path s c.args.at in
    let o = object_in (path s) s.layouts b in
    let f = columns_form c.columns.result.now in
    let n = sym c.is_opaque.ensures ∙ c.if-is_opaque.false in
    let r = there t s.layouts s.blocks.items c.args.at b e s.known c.requires.known c.sound.ensures s.live c.requires.fits c.if-at.false in
    record {
      gives = c.call_at.ensures (path s) o.tree p.steps r.part.form (shows t s.layouts s.blocks.items c.args.at b e s.live c.requires.fits c.if-block.false n f c.as_slice.result.now c.columns.ensures.form c.as_slice.ensures.value)
          (leads_at t s.layouts s.blocks.items c.args.at b e s.known c.requires.known c.sound.ensures s.live c.requires.fits c.if-at.false f r.part.form c.columns.ensures.form refl)
          ∙ sym (call_is t (objects s) p o (the_object s.layouts s.blocks.items c.args.at.block b e) c.if-block.false c.if-at.false ∙ ap (λ x. if x then Ok tt else call_of o.tree p.steps) n);
    }
