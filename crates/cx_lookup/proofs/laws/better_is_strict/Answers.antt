use Rattle.cx_lookup.proofs.Strict.{better-self, function-self, one-way}
use Rattle.cx_lookup.proofs.laws.better_is_strict.Goals as goal

pub returns-clause-conversions : goal.returns-clause-conversions
returns-clause-conversions c = better-self

pub returns-clause-functions : goal.returns-clause-functions
returns-clause-functions c = function-self

pub returns-clause-one_way : goal.returns-clause-one_way
returns-clause-one_way c = one-way
