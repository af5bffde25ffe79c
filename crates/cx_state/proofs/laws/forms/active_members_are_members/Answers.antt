use Rattle.cx_state.proofs.Reached.{active-member}
use Rattle.cx_state.proofs.laws.forms.active_members_are_members.Goals as goal

pub returns : goal.returns
returns c = record { listed = λ t os p row m h e a. let w = active-member t os p row m h e a in (w.class_id, w.field, w.is_class, w.is_field) }
