use Rattle.cx_base.specs.declared.rule.Rule.TheVariants as rule
use Rattle.cx_state.proofs.Rules.{opaque-member, opaque-lifetime, never-told}
use Rattle.cx_state.proofs.laws.rules.opaque_objects_tell_no_state.Goals as goal

pub returns-clause-member : goal.returns-clause-member
returns-clause-member c = opaque-member

pub returns-clause-lifetime : goal.returns-clause-lifetime
returns-clause-lifetime c = opaque-lifetime

pub returns-clause-never_member : goal.returns-clause-never_member
returns-clause-never_member c = λ t os p access o e h b. never-told t os p access o rule.InactiveMember e (opaque-member t o p access h) b

pub returns-clause-never_lifetime : goal.returns-clause-never_lifetime
returns-clause-never_lifetime c = λ t os p access o e h b. never-told t os p access o rule.OutOfLifetime e (opaque-lifetime t o p access h) b
