use Rattle.std.proofs.Common.{false, true≢false, Err, sym, subst, ◌∙◌}
use Rattle.cx_layout.specs.Forms.{Class}
use Rattle.cx_layout.specs.Described.{columns_form}
use Rattle.cx_slot_calls.proofs.Accesses.{part_at}
use Rattle.cx_slot_places.specs.Lives.{Tells, dynamic_of}
use Rattle.cx_slot_places.specs.Standings.{decided}
use Rattle.cx_slot_places.proofs.Deciding.{class_leads, tells_opaque, tells_rule, tells, reached}
use Rattle.cx_slot_places.proofs.life.dynamic_at.Goals as goal

pub call_at-requires-clause-place : goal.call_at-requires-clause-place
call_at-requires-clause-place c = (Class c.requires.class.class false c.requires.class.bases c.requires.class.members, (c.requires.class.steps, c.requires.class.is_at))

pub returns-then-opaque : goal.returns-then-opaque
returns-then-opaque c path x ss k bs ms show leads =
    let f = columns_form c.args.columns.now in
    subst (λ r. Tells f c.args.at.block r (dynamic_of f c.args.opaque x ss)) (sym c.decided.ensures)
    (subst (λ o. Tells f c.args.at.block (decided c.decider_at.result) (dynamic_of f o x ss)) (sym c.if-opaque.true)
    (tells_opaque f c.args.at.block x ss c.decider_at.result (c.decider_at.ensures x ss (class_leads f c.args.at c.requires.here ss (Class k false bs ms) leads) (λ e. absurd (true≢false e)))))

pub returns-in-Err : goal.returns-in-Err
returns-in-Err c path x ss k bs ms show leads =
    let f = columns_form c.args.columns.now in
    subst (λ o. Tells f c.args.at.block (Err c.in-Err.rule) (dynamic_of f o x ss)) (sym c.if-opaque.false)
    (tells_rule f c.args.at.block x ss c.in-Err.rule (sym c.in-Err.is ∙ c.call_at.ensures path x ss (Class k false bs ms) (show c.if-opaque.false) leads))

pub returns-in-Ok : goal.returns-in-Ok
returns-in-Ok c path x ss k bs ms show leads =
    let f = columns_form c.args.columns.now in
    let s = show c.if-opaque.false in
    let e = sym c.in-Ok.is ∙ c.call_at.ensures path x ss (Class k false bs ms) s leads in
    subst (λ r. Tells f c.args.at.block r (dynamic_of f c.args.opaque x ss)) (sym c.decided-in-Ok.ensures)
    (subst (λ o. Tells f c.args.at.block (decided c.decider_at-in-Ok.result) (dynamic_of f o x ss)) (sym c.if-opaque.false)
    (tells f c.args.at.block x ss c.decider_at-in-Ok.result (c.decider_at-in-Ok.ensures x ss (class_leads f c.args.at c.requires.here ss (Class k false bs ms) leads) (λ o. (path, s, reached f x ss (part_at c.args.at (Class k false bs ms)) s.fits leads e))) e))
