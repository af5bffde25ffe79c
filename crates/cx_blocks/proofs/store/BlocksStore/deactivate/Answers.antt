use Rattle.std.proofs.Common.{rules, ◌≡◌, Vec, Global, slice_set, None, Some, [], ◌∷◌, not, length, drop, refl, sym, ap, subst, ◌∙◌, arith}
use Rattle.std.specs.Vec.{with_items}
use Rattle.cx_base.specs.declared.rule.Rule.TheVariants as rule
use Rattle.cx_state.specs.Objects.{put}
use Rattle.cx_state.specs.Places.{row_of}
use Rattle.cx_state.specs.Conditions as on
use Rattle.cx_state.specs.Steps as steps
use Rattle.cx_layout.specs.Described.{columns_form}
use Rattle.cx_state.proofs.Stepped.{Fit-deactivate}
use Rattle.cx_slot_calls.specs.Rules.{reach_rule}
use Rattle.cx_slot_calls.proofs.Breaking.{activates_as}
use Rattle.cx_blocks.specs.declared.block.Block.{Block}
use Rattle.cx_blocks.specs.Bars.{barred}
use Rattle.cx_blocks.specs.Seen.{object_in}
use Rattle.cx_blocks.specs.Stored.{objects, path}
use Rattle.cx_blocks.proofs.Lists.{same_lent, take_front}
use Rattle.cx_blocks.proofs.Objects.{the_object, known_set}
use Rattle.cx_blocks.proofs.Reaching.{known_block}
use Rattle.cx_blocks.proofs.Wholes.{changed_err}
use Rattle.cx_blocks.proofs.Accesses.{writing_barred, shows, many, union_at}
use Rattle.cx_blocks.proofs.Changing.{alive, inside, local, told, wrote}
use Rattle.cx_blocks.proofs.store.BlocksStore.deactivate.Goals as goal

pub block-requires : goal.block-requires
block-requires c = known_block c.args.types.now c.args.self.now.layouts c.args.self.now.blocks.items c.args.at c.requires.known

pub returns-in-Some-clause-changed : goal.returns-in-Some-clause-changed
returns-in-Some-clause-changed c =
    let s = c.args.self.now in
    let t = c.args.types.now in
    let p = path s c.args.at in
    let r = writing_barred t s.layouts s.blocks.items c.args.at c.block.result.now c.block.ensures on.Activate (rule.InactiveMember ∷ []) c.in-Some.rule refl (sym c.unwritable.ensures ∙ c.in-Some.is) in
    changed_err (on.broken t (objects s) p on.Activate) c.in-Some.rule (put (steps.deactivated) (objects s) p) (objects s) r

pub index_mut-block-requires : goal.index_mut-block-requires
index_mut-block-requires c = let l = known_block c.args.types.now c.args.self.now.layouts c.args.self.now.blocks.items c.args.at c.requires.known in search rules

pub columns-columns-requires : goal.columns-columns-requires
columns-columns-requires c =
    let s = c.args.self.now in
    let w = same_lent s.blocks.items c.args.at.block c.block.result.now c.index_mut-block.result.now c.block.ensures c.index_mut-block.ensures.value in
    record { known = s.known c.args.at.block c.index_mut-block.result.now w.0 }

pub deactivate_at-requires-clause-slots : goal.deactivate_at-requires-clause-slots
deactivate_at-requires-clause-slots c =
    let s = c.args.self.now in
    let t = c.args.types.now in
    let b = c.index_mut-block.result.now in
    let w = same_lent s.blocks.items c.args.at.block c.block.result.now b c.block.ensures c.index_mut-block.ensures.value in
    let n = subst (λ (x : Block). barred x.released c.args.at.past (not (on.is_here x.birth)) rule.OutsideWrite ≡ None) w.1 (sym c.unwritable.ensures ∙ c.in-None.is) in
    many t s.layouts s.blocks.items c.args.at b w.0 s.live c.requires.fits (alive t s.layouts s.blocks.items c.args.at b w.0 s.known s.live c.requires.fits n) (told t s.layouts s.blocks.items c.args.at b w.0 s.known s.live c.requires.fits n)
    (columns_form c.columns-columns.result.now) c.as_mut_slice.result.now c.columns-columns.ensures.form c.as_mut_slice.ensures.value

pub deactivate_at-requires-clause-union : goal.deactivate_at-requires-clause-union
deactivate_at-requires-clause-union c =
    let s = c.args.self.now in
    let t = c.args.types.now in
    let b = c.index_mut-block.result.now in
    let w = same_lent s.blocks.items c.args.at.block c.block.result.now b c.block.ensures c.index_mut-block.ensures.value in
    let n = subst (λ (x : Block). barred x.released c.args.at.past (not (on.is_here x.birth)) rule.OutsideWrite ≡ None) w.1 (sym c.unwritable.ensures ∙ c.in-None.is) in
    let k = union_at t s.layouts s.blocks.items c.args.at b w.0 s.known c.requires.known c.sound.ensures s.live c.requires.fits (inside t s.layouts s.blocks.items c.args.at b w.0 s.known s.live c.requires.fits n) (columns_form c.columns-columns.result.now) c.columns-columns.ensures.form c.requires.union in
    record { steps = (path s c.args.at).steps; class = k.0; members = k.1; is_at = k.2 }

pub invariant_of-self-clause-known : goal.invariant_of-self-clause-known
invariant_of-self-clause-known c =
    let s = c.args.self.now in
    let b = c.index_mut-block.result.now in
    let w = same_lent s.blocks.items c.args.at.block c.block.result.now b c.block.ensures c.index_mut-block.ensures.value in
    known_set s.layouts s.blocks.items c.args.at.block b (record b { slots = with_items b.slots c.deactivate_at.new.slots }) w.0 refl s.known

pub returns-in-None : goal.returns-in-None
returns-in-None c =
    let s = c.args.self.now in
    let t = c.args.types.now in
    let at = c.args.at in
    let b = c.index_mut-block.result.now in
    let w = same_lent s.blocks.items at.block c.block.result.now b c.block.ensures c.index_mut-block.ensures.value in
    let n = subst (λ (x : Block). barred x.released at.past (not (on.is_here x.birth)) rule.OutsideWrite ≡ None) w.1 (sym c.unwritable.ensures ∙ c.in-None.is) in
    let i = inside t s.layouts s.blocks.items at b w.0 s.known s.live c.requires.fits n in
    let f = columns_form c.columns-columns.result.now in
    let o = object_in (path s) s.layouts b in
    let p = path s at in
    let v = with_items b.slots c.deactivate_at.new.slots in
    let l = c.as_mut_slice.result.now in
    let k = union_at t s.layouts s.blocks.items at b w.0 s.known c.requires.known c.sound.ensures s.live c.requires.fits i f c.columns-columns.ensures.form c.requires.union in
    let e = c.columns-columns.ensures.form in
    let a = c.deactivate_at.auto.slots in
    let d = ap length c.as_mut_slice.ensures.value in
    let many : b.slots.len ≡ length c.deactivate_at.new.slots = omega arith in
    let x = wrote t s.layouts s.blocks.items at b w.0 s.known s.live c.requires.fits n v (steps.deactivated) (steps.Deactivate) (reach_rule o.tree p.steps) l c.deactivate_at.new.slots c.deactivate_at.result f e c.as_mut_slice.ensures.value
    (take_front c.deactivate_at.new.slots (drop (length c.deactivate_at.new.slots) b.slots.items) b.slots.len many) refl
    (activates_as t (objects s) p o (the_object s.layouts s.blocks.items at.block b w.0) (alive t s.layouts s.blocks.items at b w.0 s.known s.live c.requires.fits n) i (local t s.layouts s.blocks.items at b w.0 s.known s.live c.requires.fits n))
    (c.deactivate_at.ensures (path s) o.tree p.steps k.0 k.1
    (shows t s.layouts s.blocks.items at b w.0 s.live c.requires.fits (alive t s.layouts s.blocks.items at b w.0 s.known s.live c.requires.fits n) (told t s.layouts s.blocks.items at b w.0 s.known s.live c.requires.fits n) f l e c.as_mut_slice.ensures.value)
    k.2)
    (λ ns h. Fit-deactivate t (objects s) ns p c.requires.fits.fit h) in
    record { changed = x.changed; paths = x.paths; fit = x.fit; knows = x.knows }
