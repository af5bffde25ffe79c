use Rattle.std.proofs.Common.{◌<◌, length, refl, ap, arith}
use Rattle.std.proofs.lemmas.Option.{slice_get_read}
use Rattle.cx_layout.proofs.Wholes.{all_at}
use Rattle.cx_layout.proofs.layouts.Layouts.descriptor.Goals as goal

pub returns-clause-described : goal.returns-clause-described
returns-clause-described c =
    let l = c.requires in
    let e = ap length c.self.view_is in
    let w : c.args.desc < length c.self.inside.descriptors.items = omega arith in
    all_at c.self.inside.descriptors.items c.args.desc c.index.result.now c.self.invariant.0 (slice_get_read c.self.inside.descriptors.items _ c.args.desc c.index.result.now refl w c.index.ensures)
