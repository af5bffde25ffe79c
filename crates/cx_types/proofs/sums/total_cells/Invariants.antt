use Rattle.std.proofs.Common.{◌≡◌, map, take, sum, min}
use Rattle.cx_types.specs.declared.facts.Measure.{Measure}
use Rattle.cx_types.proofs.sums.total_cells.Given as goal

abbrev pub invariant-loop-part : goal.invariant-loop-part
invariant-loop-part l = l.cells ≡ min (sum (map (λ (m : Measure). m.facts.cells) (take l.part-index l.parts))) 1073741825
