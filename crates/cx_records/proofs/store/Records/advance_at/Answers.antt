use Rattle.std.proofs.Common.{refl, sym, subst, ◌∙◌, [], ◌∷◌}
use Rattle.cx_base.specs.declared.rule.Rule.TheVariants as rule
use Rattle.cx_state.specs.Objects.{put}
use Rattle.cx_state.specs.Conditions as on
use Rattle.cx_state.specs.Steps.{with_phase}
use Rattle.cx_records.specs.Records.{objects_of, forms_in, path_in}
use Rattle.cx_records.specs.Fits.{Fits}
use Rattle.cx_records.proofs.Writing.{room, changed_ok}
use Rattle.cx_records.proofs.Wholes.{given_phase, advance_fits}
use Rattle.cx_records.proofs.store.Records.advance_at.Goals as goal

pub put-requires : goal.put-requires
put-requires c = room c.args.types.now c.args.self.now.records.items c.args.self.now.live c.args.at (on.Advance c.args.to) (rule.InactiveMember ∷ rule.OutOfLifetime ∷ []) c.requires.fits c.requires.known refl (sym c.advance_rule.ensures ∙ c.in-None.is)

pub returns-in-None-clause-changed : goal.returns-in-None-clause-changed
returns-in-None-clause-changed c =
    let rs = c.args.self.now.records.items in
    let q = path_in (forms_in rs) c.args.at in
    let b = sym c.advance_rule.ensures ∙ c.in-None.is in
    let g = given_phase c.args.types.now rs c.put.new.self.records.items c.args.self.now.live c.args.at c.args.to [] c.requires.fits c.requires.known c.requires.class b c.put.ensures.written in
    changed_ok (on.broken c.args.types.now (objects_of rs) q (on.Advance c.args.to)) (put (with_phase c.args.to) (objects_of rs) q) (objects_of rs) (objects_of c.put.new.self.records.items) b g.objects

pub returns-in-None-clause-paths : goal.returns-in-None-clause-paths
returns-in-None-clause-paths c =
    let g = given_phase c.args.types.now c.args.self.now.records.items c.put.new.self.records.items c.args.self.now.live c.args.at c.args.to [] c.requires.fits c.requires.known c.requires.class (sym c.advance_rule.ensures ∙ c.in-None.is) c.put.ensures.written in
    g.forms

pub returns-in-None-clause-fit : goal.returns-in-None-clause-fit
returns-in-None-clause-fit c =
    let rs = c.args.self.now.records.items in
    let b = sym c.advance_rule.ensures ∙ c.in-None.is in
    let g = given_phase c.args.types.now rs c.put.new.self.records.items c.args.self.now.live c.args.at c.args.to [] c.requires.fits c.requires.known c.requires.class b c.put.ensures.written in
    subst (Fits c.args.types.now c.put.new.self.records.items) (sym c.put.ensures.live)
    (g.fits (advance_fits c.args.types.now rs c.put.new.self.records.items c.args.self.now.live c.args.at c.args.to c.requires.fits b g.objects))
