use Rattle.std.proofs.Common.{◌≡◌, map, max, drop}
use Rattle.cx_levels.specs.Levels.{greatest}
use Rattle.cx_levels.specs.DeclLevels.{levels_of_decl}
use Rattle.cx_levels.proofs.decl_depth.levels.Given as goal

abbrev pub invariant-loop-decl : goal.invariant-loop-decl
invariant-loop-decl l = max l.most (greatest (map levels_of_decl (drop l.decl-index l.decl-items))) ≡ greatest (map levels_of_decl l.decl-items)
