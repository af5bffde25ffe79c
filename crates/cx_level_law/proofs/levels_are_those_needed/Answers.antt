use Rattle.cx_level_law.proofs.Units.{unit_needed, unit_limited, unit_within}
use Rattle.cx_level_law.proofs.levels_are_those_needed.Goals as goal

pub returns-clause-needed : goal.returns-clause-needed
returns-clause-needed c = unit_needed

pub returns-clause-limited : goal.returns-clause-limited
returns-clause-limited c = unit_limited 512

pub returns-clause-within : goal.returns-clause-within
returns-clause-within c = unit_within 512
