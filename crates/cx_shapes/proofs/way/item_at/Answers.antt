use Rattle.std.proofs.Common.{map, Some, sym}
use Rattle.cx_shapes.specs.Forms.{form_of, told}
use Rattle.cx_shapes.proofs.Ends.{within_ends, item_gives, no_item, item_within}
use Rattle.cx_shapes.proofs.way.item_at.Goals as goal

pub before-requires : goal.before-requires
before-requires c = within_ends c.args.shapes.now c.args.ends.now c.args.index c.in-Some.shape.now c.requires.few_parts (sym c.in-Some.ensures)

pub returns-in-None-clause-gives : goal.returns-in-None-clause-gives
returns-in-None-clause-gives c = no_item c.args.shapes.now c.args.ends.now c.args.index c.requires (sym c.in-None.ensures)

pub returns-in-Some-clause-gives : goal.returns-in-Some-clause-gives
returns-in-Some-clause-gives c = item_gives c.args.shapes.now c.args.ends.now c.args.index c.in-Some.shape.now c.before-in-Some.result c.requires (sym c.in-Some.ensures) c.before-in-Some.ensures

pub returns-in-Some-clause-within : goal.returns-in-Some-clause-within
returns-in-Some-clause-within c = item_within (told c.args.ends.now (map form_of c.args.shapes.now)) c.args.index (Some (record { from = c.before-in-Some.result; shape = c.in-Some.shape }))
    (item_gives c.args.shapes.now c.args.ends.now c.args.index c.in-Some.shape.now c.before-in-Some.result c.requires (sym c.in-Some.ensures) c.before-in-Some.ensures)
