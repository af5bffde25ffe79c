use Rattle.cx_layout.specs.Described.{columns_form}
use Rattle.cx_slot_calls.proofs.Accesses.{part_at}
use Rattle.cx_slot_places.proofs.Living.{at_within, place_in}
use Rattle.cx_slot_places.proofs.seal.sealed_at.Goals as goal

pub stand_at-requires-clause-place : goal.stand_at-requires-clause-place
stand_at-requires-clause-place c = place_in c.args.columns.now.nodes.items c.args.columns.now.parts.items (columns_form c.args.columns.now) c.requires.table c.requires.place.1.0 c.args.at c.requires.place.0 c.requires.place.1.1

pub returns : goal.returns
returns c path x ss u show leads = ((c.stand_at.ensures ss (part_at c.args.at u) (at_within c.args.columns.now.nodes.items c.args.columns.now.parts.items (columns_form c.args.columns.now) c.requires.table ss c.args.at u leads)).2 path x show).sealed_is
