use Rattle.std.proofs.Common.{refl, sym, subst, ◌∙◌, [], ◌∷◌}
use Rattle.cx_base.specs.declared.rule.Rule.TheVariants as rule
use Rattle.cx_type_defs.specs.declared.ids.Step.TheVariants as step
use Rattle.cx_state.specs.Objects.{put}
use Rattle.cx_state.specs.Places.{row_of}
use Rattle.cx_state.specs.Conditions as on
use Rattle.cx_state.specs.Steps as steps
use Rattle.cx_store.specs.Stores.{StillKnows}
use Rattle.cx_state_kept.proofs.Keeping.{put_keeps}
use Rattle.cx_records.specs.Records.{objects_of, forms_in, path_in}
use Rattle.cx_records.specs.Fits.{Fits}
use Rattle.cx_records.specs.Writes.{Rewritten}
use Rattle.cx_records.proofs.Deeper.{step_part}
use Rattle.cx_records.proofs.Writing.{changed_ok}
use Rattle.cx_record_unions.specs.Members.{Renewed}
use Rattle.cx_record_unions.proofs.Activating.{target_rooms, kept_objects, given_member, activate_fits}
use Rattle.cx_record_unions.proofs.change.activate.Goals as goal

pub target_of-target-requires-clause-there : goal.target_of-target-requires-clause-there
target_of-target-requires-clause-there c =
    step_part c.args.types.now c.args.records.now.records.items c.args.records.now.live c.args.at (step.Field c.args.member) on.Activate (rule.OutsideWrite ∷ rule.InactiveMember ∷ []) c.requires.fits c.requires.known c.requires.there refl (sym c.init_rule.ensures.activate ∙ c.in-None.is)

pub renew_at-requires-clause-rooms : goal.renew_at-requires-clause-rooms
renew_at-requires-clause-rooms c =
    target_rooms c.args.types.now c.args.records.now.records.items c.args.records.now.live c.args.at c.args.member c.target_of-target.result c.target_of-target.ensures c.requires.fits c.requires.known (sym c.init_rule.ensures.activate ∙ c.in-None.is)

pub returns-then-target-clause-changed : goal.returns-then-target-clause-changed
returns-then-target-clause-changed c =
    let rs = c.args.records.now.records.items in
    let t = c.args.types.now in
    let os = objects_of rs in
    let q = path_in (forms_in rs) c.args.at in
    let b = sym c.init_rule.ensures.activate ∙ c.in-None.is in
    let new = steps.member_tree t (steps.begun c.args.alive) c.args.member (row_of t os q) in
    changed_ok (on.broken t os q on.Activate) (put (steps.activated c.args.member new) os q) os os b
    (sym (kept_objects t rs c.args.records.now.live c.args.at c.args.member c.target_of-target.result c.target_of-target.ensures c.requires.fits c.requires.known c.requires.union c.requires.there b new c.if-target.true))

pub returns-else-target : goal.returns-else-target
returns-else-target c =
    let rs = c.args.records.now.records.items in
    let t = c.args.types.now in
    let live = c.args.records.now.live in
    let new = c.renew_at.new.records.records.items in
    let os = objects_of rs in
    let q = path_in (forms_in rs) c.args.at in
    let x = c.target_of-target.result in
    let i = c.target_of-target.ensures in
    let b = sym c.init_rule.ensures.activate ∙ c.in-None.is in
    let F = steps.activated c.args.member (steps.member_tree t (steps.begun c.args.alive) c.args.member (row_of t os q)) in
    let w = subst (λ ph. Rewritten rs new c.args.at (Renewed c.args.at.part x.from x.to c.args.member ph)) c.begun.ensures c.renew_at.ensures.written in
    let g = given_member t rs live c.args.at c.args.member x i c.requires.fits c.requires.known c.requires.union c.requires.there b new (steps.begun c.args.alive) c.if-target.false w in
    record {
      changed = changed_ok (on.broken t os q on.Activate) (put F os q) os (objects_of new) b g.objects;
      paths = g.forms;
      fit = subst (Fits t new) (sym c.renew_at.ensures.live) (g.fits (activate_fits t rs live c.args.at c.args.member x i c.requires.fits c.requires.known c.requires.union c.requires.there b new c.args.alive g.objects));
      knows = subst (StillKnows os) (sym g.objects) (put_keeps F os q);
    }
