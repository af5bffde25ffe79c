use Rattle.std.proofs.Common.{◌^◌, ◌<◌, length, take, sym, subst, arith}
use Rattle.cx_layout.specs.Described.{AllDescribed}
use Rattle.cx_layout.proofs.Wholes.{all_take, take_length}
use Rattle.cx_layout.proofs.layouts.Layouts.cut.Goals as goal

pub invariant_of-self : goal.invariant_of-self
invariant_of-self c =
    let l = take_length c.args.count c.self.inside.descriptors.items in
    let k = c.self.invariant.1 in
    let s : length (take c.args.count c.self.inside.descriptors.items) < 2 ^ 32 = omega arith in
    (subst AllDescribed (sym c.truncate.ensures.items) (all_take c.args.count c.self.inside.descriptors.items c.self.invariant.0), subst (λ ds. length ds < 2 ^ 32) (sym c.truncate.ensures.items) s)
