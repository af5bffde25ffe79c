use Rattle.std.proofs.Common.{rules, ◌≡◌, Vec, Global, slice_set, None, Some, [], ◌∷◌, not, length, drop, refl, sym, ap, subst, ◌∙◌, arith}
use Rattle.std.specs.Vec.{with_items}
use Rattle.cx_base.specs.declared.rule.Rule.TheVariants as rule
use Rattle.cx_state.specs.Objects.{Leaf, put}
use Rattle.cx_state.specs.Places.{row_of}
use Rattle.cx_state.specs.Conditions as on
use Rattle.cx_state.specs.Steps as steps
use Rattle.cx_store.specs.Stores.{seen}
use Rattle.cx_layout.specs.Described.{columns_form}
use Rattle.cx_state.specs.Forms.{HoldsValue, MayHold}
use Rattle.cx_state.proofs.Written.{Fit-store}
use Rattle.cx_layout.specs.Forms as FormOf
use Rattle.cx_slot_places.proofs.Answering.{sealed_is, form_is}
use Rattle.cx_slot_calls.specs.Rules.{store_rule}
use Rattle.cx_slot_calls.proofs.Breaking.{stores_as}
use Rattle.cx_blocks.specs.declared.block.Block.{Block}
use Rattle.cx_blocks.specs.Bars.{barred}
use Rattle.cx_blocks.specs.Seen.{object_in}
use Rattle.cx_blocks.specs.Stored.{objects, path}
use Rattle.cx_blocks.proofs.Lists.{same_lent, take_front}
use Rattle.cx_blocks.proofs.Objects.{the_object, known_set}
use Rattle.cx_blocks.proofs.Reaching.{known_block}
use Rattle.cx_blocks.proofs.Wholes.{changed_err}
use Rattle.cx_blocks.proofs.Making.{complete_known}
use Rattle.cx_blocks.proofs.Accesses.{writing_barred, shows, many, scalar_at, of_row, there}
use Rattle.cx_blocks.proofs.Changing.{alive, inside, local, told, wrote}
use Rattle.cx_blocks.proofs.store.BlocksStore.store.Goals as goal

pub block-requires : goal.block-requires
block-requires c = known_block c.args.types.now c.args.self.now.layouts c.args.self.now.blocks.items c.args.at c.requires.known

pub returns-in-Some-clause-changed : goal.returns-in-Some-clause-changed
returns-in-Some-clause-changed c =
    let s = c.args.self.now in
    let t = c.args.types.now in
    let p = path s c.args.at in
    let r = writing_barred t s.layouts s.blocks.items c.args.at c.block.result.now c.block.ensures on.Store (rule.InactiveMember ∷ rule.OutOfLifetime ∷ rule.ConstWrite ∷ []) c.in-Some.rule refl (sym c.unwritable.ensures ∙ c.in-Some.is) in
    changed_err (on.broken t (objects s) p on.Store) c.in-Some.rule (put (λ _. Leaf (seen (path s) c.args.value)) (objects s) p) (objects s) r

pub index_mut-block-requires : goal.index_mut-block-requires
index_mut-block-requires c = let l = known_block c.args.types.now c.args.self.now.layouts c.args.self.now.blocks.items c.args.at c.requires.known in search rules

pub columns-columns-requires : goal.columns-columns-requires
columns-columns-requires c =
    let s = c.args.self.now in
    let w = same_lent s.blocks.items c.args.at.block c.block.result.now c.index_mut-block.result.now c.block.ensures c.index_mut-block.ensures.value in
    record { known = s.known c.args.at.block c.index_mut-block.result.now w.0 }

pub store_at-requires-clause-slots : goal.store_at-requires-clause-slots
store_at-requires-clause-slots c =
    let s = c.args.self.now in
    let t = c.args.types.now in
    let b = c.index_mut-block.result.now in
    let w = same_lent s.blocks.items c.args.at.block c.block.result.now b c.block.ensures c.index_mut-block.ensures.value in
    let n = subst (λ (x : Block). barred x.released c.args.at.past (not (on.is_here x.birth)) rule.OutsideWrite ≡ None) w.1 (sym c.unwritable.ensures ∙ c.in-None.is) in
    many t s.layouts s.blocks.items c.args.at b w.0 s.live c.requires.fits (alive t s.layouts s.blocks.items c.args.at b w.0 s.known s.live c.requires.fits n) (told t s.layouts s.blocks.items c.args.at b w.0 s.known s.live c.requires.fits n)
    (columns_form c.columns-columns.result.now) c.as_mut_slice.result.now c.columns-columns.ensures.form c.as_mut_slice.ensures.value

pub store_at-requires-clause-scalar : goal.store_at-requires-clause-scalar
store_at-requires-clause-scalar c =
    let s = c.args.self.now in
    let t = c.args.types.now in
    let b = c.index_mut-block.result.now in
    let w = same_lent s.blocks.items c.args.at.block c.block.result.now b c.block.ensures c.index_mut-block.ensures.value in
    let n = subst (λ (x : Block). barred x.released c.args.at.past (not (on.is_here x.birth)) rule.OutsideWrite ≡ None) w.1 (sym c.unwritable.ensures ∙ c.in-None.is) in
    ((path s c.args.at).steps, scalar_at t s.layouts s.blocks.items c.args.at b w.0 s.known c.requires.known c.sound.ensures s.live c.requires.fits (inside t s.layouts s.blocks.items c.args.at b w.0 s.known s.live c.requires.fits n) (columns_form c.columns-columns.result.now) c.columns-columns.ensures.form c.requires.scalar)

pub whole_row-whole-requires : goal.whole_row-whole-requires
whole_row-whole-requires c =
    let s = c.args.self.now in
    let b = c.index_mut-block.result.now in
    let w = same_lent s.blocks.items c.args.at.block c.block.result.now b c.block.ensures c.index_mut-block.ensures.value in
    complete_known c.args.types.now b.ty (c.requires.fits.fit c.args.at.block (object_in (path s) s.layouts b) (the_object s.layouts s.blocks.items c.args.at.block b w.0)).complete

pub sealed_at-sealed-requires-clause-slots : goal.sealed_at-sealed-requires-clause-slots
sealed_at-sealed-requires-clause-slots c =
    let s = c.args.self.now in
    let t = c.args.types.now in
    let b = c.index_mut-block.result.now in
    let w = same_lent s.blocks.items c.args.at.block c.block.result.now b c.block.ensures c.index_mut-block.ensures.value in
    let n = subst (λ (x : Block). barred x.released c.args.at.past (not (on.is_here x.birth)) rule.OutsideWrite ≡ None) w.1 (sym c.unwritable.ensures ∙ c.in-None.is) in
    many t s.layouts s.blocks.items c.args.at b w.0 s.live c.requires.fits (alive t s.layouts s.blocks.items c.args.at b w.0 s.known s.live c.requires.fits n) (told t s.layouts s.blocks.items c.args.at b w.0 s.known s.live c.requires.fits n)
    (columns_form c.columns-columns.result.now) c.as_slice.result.now c.columns-columns.ensures.form c.as_slice.ensures.value

pub sealed_at-sealed-requires-clause-form : goal.sealed_at-sealed-requires-clause-form
sealed_at-sealed-requires-clause-form c =
    let s = c.args.self.now in
    let t = c.args.types.now in
    let b = c.index_mut-block.result.now in
    let w = same_lent s.blocks.items c.args.at.block c.block.result.now b c.block.ensures c.index_mut-block.ensures.value in
    form_is t (object_in (path s) s.layouts b) c.whole_row-whole.result (columns_form c.columns-columns.result.now) c.sound.ensures ((c.requires.fits.each c.args.at.block b w.0).form ∙ ap Some (sym c.columns-columns.ensures.form)) c.whole_row-whole.ensures

pub sealed_at-sealed-requires-clause-place : goal.sealed_at-sealed-requires-clause-place
sealed_at-sealed-requires-clause-place c =
    let s = c.args.self.now in
    let t = c.args.types.now in
    let b = c.index_mut-block.result.now in
    let w = same_lent s.blocks.items c.args.at.block c.block.result.now b c.block.ensures c.index_mut-block.ensures.value in
    let n = subst (λ (x : Block). barred x.released c.args.at.past (not (on.is_here x.birth)) rule.OutsideWrite ≡ None) w.1 (sym c.unwritable.ensures ∙ c.in-None.is) in
    (FormOf.Leaf, ((path s c.args.at).steps, scalar_at t s.layouts s.blocks.items c.args.at b w.0 s.known c.requires.known c.sound.ensures s.live c.requires.fits (inside t s.layouts s.blocks.items c.args.at b w.0 s.known s.live c.requires.fits n) (columns_form c.columns-columns.result.now) c.columns-columns.ensures.form c.requires.scalar))

pub invariant_of-self-clause-known : goal.invariant_of-self-clause-known
invariant_of-self-clause-known c =
    let s = c.args.self.now in
    let b = c.index_mut-block.result.now in
    let w = same_lent s.blocks.items c.args.at.block c.block.result.now b c.block.ensures c.index_mut-block.ensures.value in
    known_set s.layouts s.blocks.items c.args.at.block b (record b { slots = with_items b.slots c.store_at.new.slots }) w.0 refl s.known

pub returns-in-None : goal.returns-in-None
returns-in-None c =
    let s = c.args.self.now in
    let t = c.args.types.now in
    let at = c.args.at in
    let b = c.index_mut-block.result.now in
    let w = same_lent s.blocks.items at.block c.block.result.now b c.block.ensures c.index_mut-block.ensures.value in
    let n = subst (λ (x : Block). barred x.released at.past (not (on.is_here x.birth)) rule.OutsideWrite ≡ None) w.1 (sym c.unwritable.ensures ∙ c.in-None.is) in
    let i = inside t s.layouts s.blocks.items at b w.0 s.known s.live c.requires.fits n in
    let f = columns_form c.columns-columns.result.now in
    let o = object_in (path s) s.layouts b in
    let p = path s at in
    let y = seen (path s) c.args.value in
    let v = with_items b.slots c.store_at.new.slots in
    let r = there t s.layouts s.blocks.items at b w.0 s.known c.requires.known c.sound.ensures s.live c.requires.fits i in
    let l = c.as_mut_slice.result.now in
    let e = c.columns-columns.ensures.form in
    let show = shows t s.layouts s.blocks.items at b w.0 s.live c.requires.fits (alive t s.layouts s.blocks.items at b w.0 s.known s.live c.requires.fits n) (told t s.layouts s.blocks.items at b w.0 s.known s.live c.requires.fits n) f c.as_slice.result.now e c.as_slice.ensures.value in
    let leads = scalar_at t s.layouts s.blocks.items at b w.0 s.known c.requires.known c.sound.ensures s.live c.requires.fits i f e c.requires.scalar in
    let sealed = sealed_is t o c.whole_row-whole.result p.steps c.whole_row-whole.ensures ∙ sym (c.sealed_at-sealed.ensures (path s) o.tree p.steps FormOf.Leaf show leads) in
    let a = c.store_at.auto.slots in
    let d = ap length c.as_mut_slice.ensures.value in
    let many : b.slots.len ≡ length c.store_at.new.slots = omega arith in
    let x = wrote t s.layouts s.blocks.items at b w.0 s.known s.live c.requires.fits n v (λ _. Leaf y) (steps.Store y) (store_rule c.sealed_at-sealed.result o.tree p.steps) l c.store_at.new.slots c.store_at.result f e c.as_mut_slice.ensures.value
    (take_front c.store_at.new.slots (drop (length c.store_at.new.slots) b.slots.items) b.slots.len many) refl
    (stores_as t (objects s) p o (the_object s.layouts s.blocks.items at.block b w.0) (alive t s.layouts s.blocks.items at b w.0 s.known s.live c.requires.fits n) i (local t s.layouts s.blocks.items at b w.0 s.known s.live c.requires.fits n) ∙ ap (λ z. store_rule z o.tree p.steps) sealed)
    (c.store_at.ensures (path s) o.tree p.steps
    (shows t s.layouts s.blocks.items at b w.0 s.live c.requires.fits (alive t s.layouts s.blocks.items at b w.0 s.known s.live c.requires.fits n) (told t s.layouts s.blocks.items at b w.0 s.known s.live c.requires.fits n) f l e c.as_mut_slice.ensures.value)
    (scalar_at t s.layouts s.blocks.items at b w.0 s.known c.requires.known c.sound.ensures s.live c.requires.fits i f e c.requires.scalar))
    (λ ns h. Fit-store t (objects s) ns p r.row y c.requires.fits.fit r.is_row (of_row t s.layouts s.blocks.items at b w.0 s.known c.requires.known c.sound.ensures s.live c.requires.fits i (λ q. HoldsValue q.kind) c.requires.scalar) (of_row t s.layouts s.blocks.items at b w.0 s.known c.requires.known c.sound.ensures s.live c.requires.fits i (λ q. MayHold t (objects s) q.kind y) c.requires.holds) h) in
    record { changed = x.changed; paths = x.paths; fit = x.fit; knows = x.knows }
