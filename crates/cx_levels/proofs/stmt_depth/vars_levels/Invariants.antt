use Rattle.std.proofs.Common.{◌≡◌, map, max, drop}
use Rattle.cx_levels.specs.Levels.{greatest}
use Rattle.cx_levels.specs.StmtLevels.{levels_of_var}
use Rattle.cx_levels.proofs.stmt_depth.vars_levels.Given as goal

abbrev pub invariant-loop-var : goal.invariant-loop-var
invariant-loop-var l = max l.most (greatest (map levels_of_var (drop l.var-index l.vars))) ≡ greatest (map levels_of_var l.vars)
