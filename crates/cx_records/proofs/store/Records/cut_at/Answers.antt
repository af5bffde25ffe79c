use Rattle.std.proofs.Common.{◌≤◌, sym, ap, subst, ◌∙◌, List}
use Rattle.cx_records.specs.declared.record.Record.{Record}
use Rattle.cx_records.specs.Records.{objects_of, forms_in, path_in}
use Rattle.cx_records.specs.Fits.{Fits, live_of}
use Rattle.cx_records.proofs.Cutting.{objects_cut, paths_cut, fits_cut}
use Rattle.cx_records.proofs.store.Records.cut_at.Goals as goal

pub returns-clause-cut : goal.returns-clause-cut
returns-clause-cut c = ap objects_of c.truncate.ensures.items ∙ objects_cut c.args.self.now.records.items c.args.mark.objects c.requires.free

pub returns-clause-paths : goal.returns-clause-paths
returns-clause-paths c = λ p l. ap (λ (z : List Record). path_in (forms_in z) p) c.truncate.ensures.items ∙ paths_cut c.args.self.now.records.items c.args.mark.objects p l

pub returns-clause-fit : goal.returns-clause-fit
returns-clause-fit c = λ t f.
    let rs = c.args.self.now.records.items in
    let m = c.args.mark.objects in
    let e = c.truncate.ensures.items in
    subst (λ (z : List Record). Fits t z c.total_live-self.result) (sym e) (fits_cut t rs c.args.self.now.live c.total_live-self.result m c.requires.free f
    (λ l. let d = c.deref.ensures.value ∙ e in c.total_live-self.ensures (subst (λ (z : List Record). live_of z ≤ c.args.self.now.live) (sym d) l) ∙ ap live_of d))
