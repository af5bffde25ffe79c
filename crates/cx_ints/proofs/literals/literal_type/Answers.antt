use Rattle.std.proofs.Common.{Option, pos, sym, subst}
use Rattle.std.specs.Prelude.{IfSome}
use Rattle.cx_base.specs.declared.int_type.IntType.{IntType}
use Rattle.cx_ints.specs.Ranges.{Fits}
use Rattle.cx_ints.proofs.Listed.{literal_fits}
use Rattle.cx_ints.proofs.literals.literal_type.Goals as goal

pub returns-clause-in_range : goal.returns-clause-in_range
returns-clause-in_range c =
    subst (λ (r : Option IntType). IfSome r (λ t. Fits t (pos c.args.value))) (sym c.first_listed.ensures) (literal_fits c.args.value c.args.decimal c.args.suffix)
