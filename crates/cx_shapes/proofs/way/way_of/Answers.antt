use Rattle.cx_shapes.specs.Forms.{form_of}
use Rattle.cx_shapes.proofs.Ways.{ways_lead, ways_small}
use Rattle.cx_shapes.proofs.way.way_of.Goals as goal

pub returns : goal.returns
returns c = record {
  gives = c.way_in.ensures;
  leads = ways_lead (form_of c.args.shape.now) c.args.at c.way_in.result c.way_in.ensures;
  small = ways_small (form_of c.args.shape.now) c.args.at c.way_in.result c.way_in.ensures c.requires.small;
}
