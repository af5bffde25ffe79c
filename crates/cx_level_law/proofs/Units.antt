-- The levels of a unit are those that it needs ([implimits]).
use Rattle.std.proofs.Common.{ℕ}
use Rattle.cx_levels.specs.DeclLevels.{levels_of_unit}
use Rattle.cx_syntax_decls.specs.Symbols as symbols
use Rattle.cx_level_law.specs.Law.{Limited, Needed, Within}
use Rattle.cx_level_law.proofs.Decls.{unit_counted}

pub unit_needed : Needed symbols.unit levels_of_unit
unit_needed some n ts tree s = (λ t. (unit_counted n n).within ts tree t, λ l. (unit_counted some n).again ts tree s l)

pub unit_limited : (limit : ℕ) → Limited limit
unit_limited limit some ts tree s =
    let needed = unit_needed some limit ts tree s.spelled in (λ t. needed.0 t.spelled, λ l. record { spelled = needed.1 l; alone = s.alone })

pub unit_within : (limit : ℕ) → Within limit
unit_within limit ts tree s = (unit_counted limit limit).within ts tree s.spelled
