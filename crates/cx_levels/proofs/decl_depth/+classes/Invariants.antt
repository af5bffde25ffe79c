use Rattle.std.proofs.Common.{◌≡◌, map, max, drop}
use Rattle.cx_levels.specs.Levels.{deeper}
use Rattle.cx_levels.specs.DeclLevels.{levels_of_member}
use Rattle.cx_levels.proofs.decl_depth.+classes.Given as goal

abbrev pub invariant-class_body_levels-loop-member : goal.invariant-class_body_levels-loop-member
invariant-class_body_levels-loop-member l = max l.most (deeper (map levels_of_member (drop l.member-index l.member-items))) ≡ (deeper (map levels_of_member l.member-items))
