use Rattle.cx_state.proofs.KnownTypes.{dynamic_class-some}
use Rattle.cx_state.proofs.laws.types.dynamic_class_is_found.Goals as goal

pub returns : goal.returns
returns c = dynamic_class-some
