use Rattle.std.proofs.Common.{◌≡◌, map, max, drop}
use Rattle.cx_levels.specs.Levels.{greatest}
use Rattle.cx_levels.specs.DeclLevels.{levels_of_member_init}
use Rattle.cx_levels.proofs.decl_depth.member_inits_levels.Given as goal

abbrev pub invariant-loop-init : goal.invariant-loop-init
invariant-loop-init l = max l.most (greatest (map levels_of_member_init (drop l.init-index l.inits))) ≡ greatest (map levels_of_member_init l.inits)
