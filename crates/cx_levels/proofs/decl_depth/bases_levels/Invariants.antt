use Rattle.std.proofs.Common.{◌≡◌, map, max, drop}
use Rattle.cx_levels.specs.Levels.{greatest}
use Rattle.cx_levels.specs.DeclLevels.{levels_of_base}
use Rattle.cx_levels.proofs.decl_depth.bases_levels.Given as goal

abbrev pub invariant-loop-base : goal.invariant-loop-base
invariant-loop-base l = max l.most (greatest (map levels_of_base (drop l.base-index l.bases))) ≡ greatest (map levels_of_base l.bases)
