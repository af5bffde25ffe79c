use Rattle.std.proofs.Common.{◌≡◌, map, max, drop}
use Rattle.cx_levels.specs.Levels.{greatest}
use Rattle.cx_levels.specs.DeclLevels.{levels_of_param}
use Rattle.cx_levels.proofs.decl_depth.params_levels.Given as goal

abbrev pub invariant-loop-param : goal.invariant-loop-param
invariant-loop-param l = max l.most (greatest (map levels_of_param (drop l.param-index l.params))) ≡ greatest (map levels_of_param l.params)
