use Rattle.std.proofs.Common.{subst}
use Rattle.cx_type_defs.specs.Sound.{Sound}
use Rattle.cx_types.proofs.Soundness.{sound-kept}
use Rattle.cx_types.proofs.tables.Types.sound.Goals as goal

pub returns : goal.returns
returns c = subst Sound c.self.view_is (sound-kept _ _ _ _ c.self.invariant)
