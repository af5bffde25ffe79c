use Rattle.std.proofs.Common.{◌≡◌, map, max, drop}
use Rattle.cx_levels.specs.Levels.{greatest}
use Rattle.cx_levels.specs.StmtLevels.{levels_of_enumerator}
use Rattle.cx_levels.proofs.stmt_depth.enumerators_levels.Given as goal

abbrev pub invariant-loop-enumerator : goal.invariant-loop-enumerator
invariant-loop-enumerator l = max l.most (greatest (map levels_of_enumerator (drop l.enumerator-index l.enumerators))) ≡ greatest (map levels_of_enumerator l.enumerators)
