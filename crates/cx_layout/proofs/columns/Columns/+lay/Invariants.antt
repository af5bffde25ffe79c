use Rattle.std.proofs.Common.{◌+◌, ◌*◌}
use Rattle.cx_layout.specs.Laying.{group_forms, LaysFirst}
use Rattle.cx_layout.proofs.columns.Columns.+lay.Given as goal

abbrev pub decreases-lay_piece : goal.decreases-lay_piece
decreases-lay_piece l = 4 * l.levels

abbrev pub decreases-lay_array : goal.decreases-lay_array
decreases-lay_array l = 4 * l.levels + 1

abbrev pub decreases-lay_class : goal.decreases-lay_class
decreases-lay_class l = 4 * l.levels + 2

abbrev pub decreases-lay_group : goal.decreases-lay_group
decreases-lay_group l = 4 * l.levels + 1

abbrev pub invariant-lay_group-loop-i : goal.invariant-lay_group-loop-i
invariant-lay_group-loop-i l = LaysFirst l.i l.fn.self.nodes.items l.fn.self.parts.items l.fn.starts.items l.self.nodes.items l.self.parts.items l.starts.items l.group (group_forms l.types l.levels l.group.class l.group.of_bases) l.cells
