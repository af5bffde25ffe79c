use Rattle.std.proofs.Common.{◌≡◌, map, take, sum, min}
use Rattle.cx_types.specs.declared.facts.Measure.{Measure}
use Rattle.cx_types.proofs.sums.total_nodes.Given as goal

abbrev pub invariant-loop-part : goal.invariant-loop-part
invariant-loop-part l = l.nodes ≡ min (sum (map (λ (m : Measure). m.facts.nodes) (take l.part-index l.parts))) 1048577
