-- What the calls on shapes give, seen by forms.
use Rattle.cx_shapes.specs.declared.way.Found.{Found as FoundShape}
use Rattle.cx_shapes.specs.declared.way.Piece.{Piece}
use Rattle.cx_shapes.specs.declared.way.Way.{Way as ShapeWay}
use Rattle.cx_shapes.specs.Forms.{Part, Found, Way, form_of}

abbrev pub piece_seen : Piece → Part
piece_seen p = (p.from, form_of p.shape.now)

abbrev pub found_seen : FoundShape → Found
found_seen x = (x.index, x.from, form_of x.shape.now)

abbrev pub way_seen : ShapeWay → Way
way_seen w = (w.step, w.from, form_of w.shape.now)
