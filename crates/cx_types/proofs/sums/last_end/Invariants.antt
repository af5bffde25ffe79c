use Rattle.std.proofs.Common.{◌≡◌, ◌*◌, ◌≤◌, map, take, sum}
use Rattle.cx_types.specs.declared.facts.Measure.{Measure}
use Rattle.cx_type_defs.specs.Questions.{end_of}
use Rattle.cx_types.specs.Parts.{laid}
use Rattle.cx_types.proofs.sums.last_end.Given as goal

abbrev pub invariant-loop-part : goal.invariant-loop-part
invariant-loop-part l = (l.at ≡ end_of 0 (map laid (take l.part-index l.parts))) × (l.at ≤ 16 * sum (map (λ (m : Measure). m.facts.cells) (take l.part-index l.parts)))
