use Rattle.std.proofs.Common.{◌≡◌, map, max, drop}
use Rattle.cx_levels.specs.Levels.{deeper}
use Rattle.cx_levels.specs.DeclLevels.{levels_of_decl}
use Rattle.cx_levels.proofs.decl_depth.+levels.Given as goal

abbrev pub invariant-namespace_levels-loop-decl : goal.invariant-namespace_levels-loop-decl
invariant-namespace_levels-loop-decl l = max l.most (deeper (map levels_of_decl (drop l.decl-index l.decl-items))) ≡ (deeper (map levels_of_decl l.decl-items))
