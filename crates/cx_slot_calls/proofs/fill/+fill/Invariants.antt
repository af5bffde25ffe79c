use Rattle.std.proofs.Common.{◌≡◌, ℕ, ◌+◌, ◌*◌, ◌-◌, false, length}
use Rattle.cx_type_defs.specs.declared.ids.Step.{Step}
use Rattle.cx_state.specs.Objects.{Path, copies}
use Rattle.cx_layout.specs.declared.place.Place.{Place}
use Rattle.cx_layout.specs.Forms.{Form, Forms, count}
use Rattle.cx_layout.specs.Laid.{Listed, Laid, PartsLaid}
use Rattle.cx_slots.specs.Slots.{slots_seen}
use Rattle.cx_slots.specs.Flat.{flat, flat_each}
use Rattle.cx_slots.specs.Fresh.{fresh, all_new, over}
use Rattle.cx_slots.specs.Fresh as new
use Rattle.cx_slot_calls.proofs.fill.+fill.Given as goal

abbrev pub decreases-fill : goal.decreases-fill
decreases-fill l = 2 * (length l.columns.now.nodes.items - l.node) + 1

abbrev pub decreases-fill_parts : goal.decreases-fill_parts
decreases-fill_parts l = 2 * (length l.columns.now.nodes.items - l.parent)

abbrev pub decreases-fill_row : goal.decreases-fill_row
decreases-fill_row l = 2 * (length l.columns.now.nodes.items - l.node) + 2

abbrev pub invariant-fill_parts-loop-i : goal.invariant-fill_parts-loop-i
invariant-fill_parts-loop-i l = (path : Place → Path) (fs : Forms) (s : ℕ → Step) (n o : ℕ) → Listed l.columns.parts.items l.from n fs → PartsLaid l.columns.nodes.items l.columns.parts.items l.parent s false 0 n o fs → count fs ≡ l.count
    → slots_seen path l.slots ≡ over (slots_seen path l.initial.slots) (l.slot + o) (all_new l.phase (new.first l.i fs))

abbrev pub invariant-fill_row-loop-i : goal.invariant-fill_row-loop-i
invariant-fill_row-loop-i l = (path : Place → Path) (f : Form) → Laid l.columns.nodes.items l.columns.parts.items l.node f → slots_seen path l.slots ≡ over (slots_seen path l.initial.slots) l.slot (flat_each (flat f) (copies l.i (fresh l.phase f)))
