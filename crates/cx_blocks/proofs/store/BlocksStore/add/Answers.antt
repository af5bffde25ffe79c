use Rattle.std.proofs.Common.{ℤ, false, Ok, Err, refl, sym, ap, subst, ◌∙◌, if◌then◌else◌}
use Rattle.std.specs.Int.{w128}
use Rattle.std.proofs.lemmas.Int.{to_z-of_z}
use Rattle.std.specs.Prelude.{Result}
use Rattle.cx_base.specs.declared.rule.Rule.{Rule}
use Rattle.cx_base.specs.declared.rule.Rule.TheVariants as rule
use Rattle.cx_state.specs.Objects.{Path}
use Rattle.cx_state.specs.Pointers as pointers
use Rattle.cx_layout.specs.Forms.{Form}
use Rattle.cx_layout.specs.Places.{Leads}
use Rattle.cx_layout.specs.Paths.{SameAnswer}
use Rattle.cx_layout.specs.Described.{columns_form, form_at}
use Rattle.cx_slot_places.specs.Pointers.{added}
use Rattle.cx_slot_places.proofs.Shaping.{add_is}
use Rattle.cx_blocks.specs.Stored.{objects, path}
use Rattle.cx_blocks.proofs.Reaching.{known_block, steps_lead}
use Rattle.cx_blocks.proofs.Moving.{answers}
use Rattle.cx_blocks.proofs.Comparing.{dangles, has_form, add_object}
use Rattle.cx_blocks.proofs.store.BlocksStore.add.Goals as goal

pub block-block-requires : goal.block-block-requires
block-block-requires c = known_block c.args.types.now c.args.self.now.layouts c.args.self.now.blocks.items c.args.at c.requires.known

pub columns-requires : goal.columns-requires
columns-requires c = record { known = c.args.self.now.known c.args.at.block c.block-block.result.now c.block-block.ensures }

pub add_at-requires-clause-place : goal.add_at-requires-clause-place
add_at-requires-clause-place c =
    let s = c.args.self.now in
    let p = path s c.args.at in
    (p.steps, subst (λ (f : Form). Leads f p.steps c.args.at) (sym c.columns.ensures.form) (steps_lead c.args.types.now s.layouts s.blocks.items s.known c.args.at c.block-block.result.now c.block-block.ensures c.requires.known))

pub returns-then-block-clause-gives : goal.returns-then-block-clause-gives
returns-then-block-clause-gives c =
    let s = c.args.self.now in
    let p = path s c.args.at in
    sym (ap (λ x. if x then Err rule.Dangling else pointers.moved p (pointers.count_at c.args.types.now (objects s) p) c.args.by) (dangles s.layouts s.blocks.items c.args.at c.block-block.result.now c.block-block.ensures ∙ c.if-block.true))

pub returns : goal.returns
returns c =
    let s = c.args.self.now in
    let t = c.args.types.now in
    let p = path s c.args.at in
    let b = c.block-block.result.now in
    let e = c.block-block.ensures in
    let f = form_at s.layouts b.desc in
    let l = steps_lead t s.layouts s.blocks.items s.known c.args.at b e c.requires.known in
    let x = c.add_at.ensures p.steps (subst (λ (g : Form). Leads g p.steps c.args.at) (sym c.columns.ensures.form) l) in
    let v = subst (λ (n : ℤ). SameAnswer (columns_form c.columns.result.now) c.add_at.result (added (columns_form c.columns.result.now) p n)) (to_z-of_z w128 c.args.by c.ranges.by) x in
    let y = subst (λ (g : Form). SameAnswer g c.add_at.result (added g p c.args.by)) c.columns.ensures.form v in
    let z = add_is t c.sound.ensures (objects s) f p (has_form t s.layouts s.blocks.items c.args.at b e s.live c.requires.fits) c.args.by ∙ ap (λ x. if x then Err rule.Dangling else added f p c.args.by) (dangles s.layouts s.blocks.items c.args.at b e ∙ c.if-block.false) in
    let a = answers t s.layouts s.blocks.items c.args.at b e c.sound.ensures s.live c.requires.fits c.if-block.false c.add_at.result (pointers.add t (objects s) p c.args.by) (λ q h. add_object t (objects s) p q c.args.by h)
    (subst (λ (r : Result Path Rule). SameAnswer f c.add_at.result r) (sym z) y) in
    record { gives = a.gives; known = a.known }
