use Rattle.std.proofs.Common.{◌≡◌, [], ◌∷◌, ◌++◌, None, refl, arith}
use Rattle.cx_types.proofs.Whole.{All-class}
use Rattle.cx_types.proofs.tables.Types.class_begin.Goals as goal

pub invariant_of-self-2 : goal.invariant_of-self-2
invariant_of-self-2 c =
    let pushed : c.push-2.new.self.items ≡ c.self.inside.measures.items ++ None ∷ [] = grind (arith, c.push-2.ensures.items, c.reserve.ensures.items, c.unwrap.ensures) in
    rw (c.in_ok-push.ensures.ok, pushed) (All-class _ _ _ _ _ refl c.self.invariant)
