use Rattle.std.proofs.Common.{true, false, ◌||◌, ◌&&◌, Ok, Err, refl, sym, ap, subst, ◌∙◌, if◌then◌else◌}
use Rattle.std.specs.Prelude.{slice_get}
use Rattle.cx_base.specs.declared.rule.Rule.TheVariants as rule
use Rattle.cx_state.specs.Pointers as pointers
use Rattle.cx_layout.specs.Forms.{Form}
use Rattle.cx_layout.specs.Places.{Leads}
use Rattle.cx_layout.specs.Described.{form_at}
use Rattle.cx_blocks.specs.Stored.{objects, path}
use Rattle.cx_blocks.proofs.Reaching.{known_block, steps_lead}
use Rattle.cx_slot_places.specs.Pointers.{equal_of}
use Rattle.cx_slot_places.proofs.Shaping.{equal_is, apart_equal}
use Rattle.cx_blocks.proofs.Comparing.{literal, not_same, has_form, apart}
use Rattle.cx_blocks.proofs.store.BlocksStore.equal.Goals as goal

pub block-first-requires : goal.block-first-requires
block-first-requires c = known_block c.args.types.now c.args.self.now.layouts c.args.self.now.blocks.items c.args.a c.requires.known

pub block-second-requires : goal.block-second-requires
block-second-requires c = known_block c.args.types.now c.args.self.now.layouts c.args.self.now.blocks.items c.args.b c.requires.other

pub columns-requires : goal.columns-requires
columns-requires c = record { known = c.args.self.now.known c.args.a.block c.block-first.result.now c.block-first.ensures }

pub equal_at-requires-clause-place : goal.equal_at-requires-clause-place
equal_at-requires-clause-place c =
    let s = c.args.self.now in
    let p = path s c.args.a in
    (p.steps, subst (λ (f : Form). Leads f p.steps c.args.a) (sym c.columns.ensures.form) (steps_lead c.args.types.now s.layouts s.blocks.items s.known c.args.a c.block-first.result.now c.block-first.ensures c.requires.known))

pub equal_at-requires-clause-other : goal.equal_at-requires-clause-other
equal_at-requires-clause-other c =
    let s = c.args.self.now in
    let q = path s c.args.b in
    let here = ap (slice_get s.blocks.items) (sym c.if-a-b.true) ∙ c.block-first.ensures in
    (q.steps, subst (λ (f : Form). Leads f q.steps c.args.b) (sym c.columns.ensures.form) (steps_lead c.args.types.now s.layouts s.blocks.items s.known c.args.b c.block-first.result.now here c.requires.other))

pub returns-then-a-b : goal.returns-then-a-b
returns-then-a-b c =
    let s = c.args.self.now in
    let t = c.args.types.now in
    let p = path s c.args.a in
    let q = path s c.args.b in
    let here = ap (slice_get s.blocks.items) (sym c.if-a-b.true) ∙ c.block-first.ensures in
    let l = subst (λ (f : Form). Leads f p.steps c.args.a) (sym c.columns.ensures.form) (steps_lead t s.layouts s.blocks.items s.known c.args.a c.block-first.result.now c.block-first.ensures c.requires.known) in
    let m = subst (λ (f : Form). Leads f q.steps c.args.b) (sym c.columns.ensures.form) (steps_lead t s.layouts s.blocks.items s.known c.args.b c.block-first.result.now here c.requires.other) in
    let f = form_at s.layouts c.block-first.result.now.desc in
    let h = has_form t s.layouts s.blocks.items c.args.a c.block-first.result.now c.block-first.ensures s.live c.requires.fits in
    record { gives = c.equal_at.ensures p.steps q.steps l m ∙ ap (λ (g : Form). equal_of g p q) c.columns.ensures.form ∙ sym (equal_is t c.sound.ensures (objects s) f p h q c.if-a-b.true) }

pub returns-then-a : goal.returns-then-a
returns-then-a c =
    let s = c.args.self.now in
    let t = c.args.types.now in
    let p = path s c.args.a in
    let q = path s c.args.b in
    let n = apart_equal t (objects s) p q (not_same c.args.a.block c.args.b.block c.if-a-b.false) in
    let one = pointers.in_literal (objects s) p in
    let other = pointers.in_literal (objects s) q in
    record { gives = sym (n ∙ ap (λ x. apart x q.past one other) c.if-a.true) }

pub returns-then-b : goal.returns-then-b
returns-then-b c =
    let s = c.args.self.now in
    let t = c.args.types.now in
    let p = path s c.args.a in
    let q = path s c.args.b in
    let n = apart_equal t (objects s) p q (not_same c.args.a.block c.args.b.block c.if-a-b.false) in
    let one = pointers.in_literal (objects s) p in
    let other = pointers.in_literal (objects s) q in
    record { gives = sym (n ∙ ap (λ x. apart x q.past one other) c.if-a.false ∙ ap (λ x. apart false x one other) c.if-b.true) }

pub returns-then-not-is_literal : goal.returns-then-not-is_literal
returns-then-not-is_literal c =
    let s = c.args.self.now in
    let t = c.args.types.now in
    let p = path s c.args.a in
    let q = path s c.args.b in
    let n = apart_equal t (objects s) p q (not_same c.args.a.block c.args.b.block c.if-a-b.false) in
    let one = pointers.in_literal (objects s) p in
    let other = pointers.in_literal (objects s) q in
    let m = n ∙ ap (λ x. apart x q.past one other) c.if-a.false ∙ ap (λ x. apart false x one other) c.if-b.false in
    let i = literal s.layouts s.blocks.items c.args.a c.block-first.result.now c.block-first.ensures ∙ sym c.is_literal.ensures in
    record { gives = sym (m ∙ ap (λ x. apart false false x other) (i ∙ c.if-not-is_literal.true)) }

pub returns-then-not-is_literal-2 : goal.returns-then-not-is_literal-2
returns-then-not-is_literal-2 c =
    let s = c.args.self.now in
    let t = c.args.types.now in
    let p = path s c.args.a in
    let q = path s c.args.b in
    let n = apart_equal t (objects s) p q (not_same c.args.a.block c.args.b.block c.if-a-b.false) in
    let one = pointers.in_literal (objects s) p in
    let other = pointers.in_literal (objects s) q in
    let m = n ∙ ap (λ x. apart x q.past one other) c.if-a.false ∙ ap (λ x. apart false x one other) c.if-b.false in
    let i = literal s.layouts s.blocks.items c.args.a c.block-first.result.now c.block-first.ensures ∙ sym c.is_literal.ensures in
    let j = literal s.layouts s.blocks.items c.args.b c.block-second.result.now c.block-second.ensures ∙ sym c.is_literal-2.ensures in
    record { gives = sym (m ∙ ap (λ x. apart false false x other) (i ∙ c.if-not-is_literal.false) ∙ ap (apart false false true) (j ∙ c.if-not-is_literal-2.true)) }

pub returns : goal.returns
returns c =
    let s = c.args.self.now in
    let t = c.args.types.now in
    let p = path s c.args.a in
    let q = path s c.args.b in
    let n = apart_equal t (objects s) p q (not_same c.args.a.block c.args.b.block c.if-a-b.false) in
    let one = pointers.in_literal (objects s) p in
    let other = pointers.in_literal (objects s) q in
    let m = n ∙ ap (λ x. apart x q.past one other) c.if-a.false ∙ ap (λ x. apart false x one other) c.if-b.false in
    let i = literal s.layouts s.blocks.items c.args.a c.block-first.result.now c.block-first.ensures ∙ sym c.is_literal.ensures in
    let j = literal s.layouts s.blocks.items c.args.b c.block-second.result.now c.block-second.ensures ∙ sym c.is_literal-2.ensures in
    record { gives = sym (m ∙ ap (λ x. apart false false x other) (i ∙ c.if-not-is_literal.false) ∙ ap (apart false false true) (j ∙ c.if-not-is_literal-2.false)) }
