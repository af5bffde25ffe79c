use Rattle.std.proofs.Common.{refl, sym, subst, ◌∙◌, [], ◌∷◌}
use Rattle.cx_base.specs.declared.rule.Rule.TheVariants as rule
use Rattle.cx_state.specs.Objects.{put}
use Rattle.cx_state.specs.Conditions as on
use Rattle.cx_state.specs.Steps as steps
use Rattle.cx_store.specs.Stores.{StillKnows}
use Rattle.cx_state_kept.proofs.Keeping.{put_keeps}
use Rattle.cx_records.specs.Records.{objects_of, forms_in, path_in}
use Rattle.cx_records.specs.Fits.{Fits}
use Rattle.cx_records.proofs.Writing.{room, changed_ok}
use Rattle.cx_record_unions.proofs.Deactivating.{given_none, deactivate_fits}
use Rattle.cx_record_unions.proofs.change.deactivate.Goals as goal

pub put-requires : goal.put-requires
put-requires c = room c.args.types.now c.args.records.now.records.items c.args.records.now.live c.args.at on.Activate (rule.InactiveMember ∷ []) c.requires.fits c.requires.known refl (sym c.init_rule.ensures.activate ∙ c.in-None.is)

pub returns-in-None : goal.returns-in-None
returns-in-None c =
    let rs = c.args.records.now.records.items in
    let t = c.args.types.now in
    let live = c.args.records.now.live in
    let new = c.put.new.self.records.items in
    let os = objects_of rs in
    let q = path_in (forms_in rs) c.args.at in
    let b = sym c.init_rule.ensures.activate ∙ c.in-None.is in
    let g = given_none t rs new live c.args.at c.no_member.result c.no_member.ensures c.requires.fits c.requires.known c.requires.union b c.put.ensures.written in
    record {
      changed = changed_ok (on.broken t os q on.Activate) (put steps.deactivated os q) os (objects_of new) b g.objects;
      paths = g.forms;
      fit = subst (Fits t new) (sym c.put.ensures.live) (g.fits (deactivate_fits t rs new live c.args.at c.requires.fits b g.objects));
      knows = subst (StillKnows os) (sym g.objects) (put_keeps steps.deactivated os q);
    }
