use Rattle.std.proofs.Common.{refl}
use Rattle.cx_types.proofs.Whole.{All-enum}
use Rattle.cx_types.proofs.tables.Types.enum_add.Goals as goal

pub invariant_of-self-2 : goal.invariant_of-self-2
invariant_of-self-2 c = rw c.in_ok-push.ensures.ok (All-enum _ _ _ _ _ c.requires.scoped refl c.self.invariant)
