-- What one level of two types tells of a qualification conversion ([conv.qual]).
use Rattle.std.specs.Prelude.{Bool, true, false, ◌==◌, ◌&&◌, if◌then◌else◌}
use Rattle.cx_type_defs.specs.declared.kind.TypeRow.{TypeRow}
use Rattle.cx_type_defs.specs.declared.kind.TypeKind.{TypeKind}
use Rattle.cx_type_defs.specs.declared.kind.TypeKind.TheVariants as kind
use Rattle.cx_lookup.specs.declared.convert.Level.{Level}
use Rattle.cx_lookup.specs.declared.convert.Level.TheVariants as level
use Rattle.cx_lookup.specs.Ranks.{same_int}

-- const isn't lost, and is added only below what is const in the target
abbrev pub gate : Bool → Bool → Bool → Bool
gate above true true = true
gate above true false = false
gate above false true = above
gate above false false = true

-- the flags say that each level above is const in the target, and so are the levels above those that a pointer leads to
abbrev pub parts_level : Bool → Bool → TypeKind → TypeKind → Level
parts_level above below kind.Void kind.Void = level.Settled true
parts_level above below kind.Nullptr kind.Nullptr = level.Settled true
parts_level above below (kind.Int a) (kind.Int b) = level.Settled (same_int a b)
parts_level above below (kind.Enum a) (kind.Enum b) = level.Settled (a.0 == b.0)
parts_level above below (kind.Class a) (kind.Class b) = level.Settled (a.0 == b.0)
parts_level above below (kind.Pointer f) (kind.Pointer g) = level.Below below f g
parts_level above below (kind.Array f n) (kind.Array g m) = if n == m then level.Below above f g else level.Settled false
parts_level above below _ _ = level.Settled false

abbrev pub level_of : Bool → TypeRow → TypeRow → Level
level_of above r q = if gate above r.konst q.konst then parts_level above (above && q.konst) r.kind q.kind else level.Settled false
