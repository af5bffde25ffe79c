use Rattle.std.proofs.Common.{◌≡◌, Some, take}
use Rattle.cx_layout.specs.Places.{place_of}
use Rattle.cx_layout.specs.Described.{columns_form}
use Rattle.cx_layout.proofs.columns.Columns.place_of.Given as goal

abbrev pub invariant-loop-i : goal.invariant-loop-i
invariant-loop-i l = place_of (columns_form l.self) l.block (take l.i l.steps) ≡ Some l.at
