use Rattle.std.proofs.Common.{◌≤◌, List, sym, ap, subst, ◌∙◌}
use Rattle.cx_store.specs.Stores.{StillKnowsBelow}
use Rattle.cx_state_kept.proofs.Keeping.{cut_keeps}
use Rattle.cx_blocks.specs.declared.block.Block.{Block}
use Rattle.cx_blocks.specs.Seen.{paths_in, objects_in}
use Rattle.cx_blocks.specs.Fits.{Fits, live_of}
use Rattle.cx_blocks.proofs.Wholes.{objects_cut, paths_cut, fits_cut}
use Rattle.cx_blocks.proofs.store.BlocksStore.cut.Goals as goal

pub returns-clause-cut : goal.returns-clause-cut
returns-clause-cut c = ap (objects_in c.args.self.now.layouts) c.truncate.ensures.items ∙ objects_cut c.args.self.now.layouts c.args.self.now.blocks.items c.args.mark.objects c.requires.free

pub returns-clause-paths : goal.returns-clause-paths
returns-clause-paths c = λ p l. ap (λ (z : List Block). paths_in c.args.self.now.layouts z p) c.truncate.ensures.items ∙ paths_cut c.args.self.now.layouts c.args.self.now.blocks.items c.args.mark.objects p l

pub returns-clause-fit : goal.returns-clause-fit
returns-clause-fit c = λ t f.
    let ds = c.args.self.now.layouts in
    let bs = c.args.self.now.blocks.items in
    let m = c.args.mark.objects in
    let e = c.truncate.ensures.items in
    subst (λ (z : List Block). Fits t ds z c.total_live-self.result) (sym e) (fits_cut ds bs m c.requires.free t c.args.self.now.live c.total_live-self.result f
    (λ l. let d = c.deref.ensures.value ∙ e in c.total_live-self.ensures (subst (λ (z : List Block). live_of z ≤ c.args.self.now.live) (sym d) l) ∙ ap live_of d))

pub returns-clause-knows : goal.returns-clause-knows
returns-clause-knows c =
    let ds = c.args.self.now.layouts in
    let bs = c.args.self.now.blocks.items in
    let m = c.args.mark.objects in
    subst (StillKnowsBelow m (objects_in ds bs)) (sym (ap (objects_in ds) c.truncate.ensures.items ∙ objects_cut ds bs m c.requires.free)) (cut_keeps (objects_in ds bs) m)
