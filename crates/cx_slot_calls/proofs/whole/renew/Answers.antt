use Rattle.std.proofs.Common.{sym, ◌∙◌}
use Rattle.cx_layout.specs.Described.{columns_form}
use Rattle.cx_slots.specs.Slots.{slots_seen}
use Rattle.cx_slots.specs.Fresh.{new_slots}
use Rattle.cx_slots.proofs.Fresh.{fresh_fits, new_length}
use Rattle.cx_slots.proofs.Over.{over_whole}
use Rattle.cx_slots.proofs.Seen.{seen_length}
use Rattle.cx_slot_calls.proofs.whole.renew.Goals as goal

pub returns : goal.returns
returns c path =
    let f = columns_form c.args.columns.now in
    record {
      fits = fresh_fits c.args.phase f;
      seen = c.fill.ensures path f c.requires.table.laid ∙ over_whole (slots_seen path c.args.slots.now) (new_slots c.args.phase f) (seen_length path c.args.slots.now ∙ c.requires.slots ∙ sym (new_length c.args.phase f));
    }
