use Rattle.std.proofs.Common.{true, false, ◌||◌, ◌&&◌, Ok, Err, refl, sym, ap, subst, ◌∙◌, if◌then◌else◌}
use Rattle.std.specs.Prelude.{slice_get}
use Rattle.cx_base.specs.declared.rule.Rule.TheVariants as rule
use Rattle.cx_state.specs.Pointers as pointers
use Rattle.cx_layout.specs.Forms.{Form}
use Rattle.cx_layout.specs.Places.{Leads}
use Rattle.cx_layout.specs.Described.{form_at}
use Rattle.cx_blocks.specs.Stored.{objects, path}
use Rattle.cx_blocks.proofs.Reaching.{known_block, steps_lead}
use Rattle.cx_slot_places.specs.Pointers.{distance_of}
use Rattle.cx_slot_places.proofs.Shaping.{apart_distance}
use Rattle.cx_blocks.proofs.Comparing.{dangles, not_same}
use Rattle.cx_blocks.proofs.store.BlocksStore.distance.Goals as goal

pub block-first-requires : goal.block-first-requires
block-first-requires c = known_block c.args.types.now c.args.self.now.layouts c.args.self.now.blocks.items c.args.a c.requires.known

pub block-second-requires : goal.block-second-requires
block-second-requires c = known_block c.args.types.now c.args.self.now.layouts c.args.self.now.blocks.items c.args.b c.requires.other

pub columns-requires : goal.columns-requires
columns-requires c = record { known = c.args.self.now.known c.args.a.block c.block-first.result.now c.block-first.ensures }

pub distance_at-requires-clause-place : goal.distance_at-requires-clause-place
distance_at-requires-clause-place c =
    let s = c.args.self.now in
    let p = path s c.args.a in
    (p.steps, subst (λ (f : Form). Leads f p.steps c.args.a) (sym c.columns.ensures.form) (steps_lead c.args.types.now s.layouts s.blocks.items s.known c.args.a c.block-first.result.now c.block-first.ensures c.requires.known))

pub distance_at-requires-clause-other : goal.distance_at-requires-clause-other
distance_at-requires-clause-other c =
    let s = c.args.self.now in
    let q = path s c.args.b in
    let here = ap (slice_get s.blocks.items) (sym c.if-a-b.true) ∙ c.block-first.ensures in
    (q.steps, subst (λ (f : Form). Leads f q.steps c.args.b) (sym c.columns.ensures.form) (steps_lead c.args.types.now s.layouts s.blocks.items s.known c.args.b c.block-first.result.now here c.requires.other))

pub returns-then-a-b : goal.returns-then-a-b
returns-then-a-b c =
    let s = c.args.self.now in
    let t = c.args.types.now in
    let p = path s c.args.a in
    let q = path s c.args.b in
    let here = ap (slice_get s.blocks.items) (sym c.if-a-b.true) ∙ c.block-first.ensures in
    let l = subst (λ (f : Form). Leads f p.steps c.args.a) (sym c.columns.ensures.form) (steps_lead t s.layouts s.blocks.items s.known c.args.a c.block-first.result.now c.block-first.ensures c.requires.known) in
    let m = subst (λ (f : Form). Leads f q.steps c.args.b) (sym c.columns.ensures.form) (steps_lead t s.layouts s.blocks.items s.known c.args.b c.block-first.result.now here c.requires.other) in
    let d = dangles s.layouts s.blocks.items c.args.a c.block-first.result.now c.block-first.ensures ∙ c.if-first.false in
    let e = dangles s.layouts s.blocks.items c.args.b c.block-second.result.now c.block-second.ensures ∙ c.if-second.false in
    let n = ap (λ x. x || pointers.is_dangling (objects s) q) d ∙ e in
    record { gives = c.distance_at.ensures p.steps q.steps l m ∙ sym (ap (λ x. if x then Err rule.Dangling else distance_of p q) n) }

pub returns : goal.returns
returns c =
    let s = c.args.self.now in
    let t = c.args.types.now in
    let p = path s c.args.a in
    let q = path s c.args.b in
    let d = dangles s.layouts s.blocks.items c.args.a c.block-first.result.now c.block-first.ensures ∙ c.if-first.false in
    let e = dangles s.layouts s.blocks.items c.args.b c.block-second.result.now c.block-second.ensures ∙ c.if-second.false in
    record { gives = sym (apart_distance (objects s) p q (not_same c.args.a.block c.args.b.block c.if-a-b.false) d e) }
