use Rattle.std.proofs.Common.{◌∙◌}
use Rattle.cx_type_names.proofs.Closing.{known-on}
use Rattle.cx_type_names.proofs.behind.Behind.pass.Goals as goal

pub returns-clause-known : goal.returns-clause-known
returns-clause-known c =
    known-on c.args.token.now c.args.rest.now c.args.front.now c.role_of-role.result _ c.in_ok-closer.closer _ c.requires.shape
    c.role_of-role.ensures (c.self.view_is ∙ c.requires.known) c.in_ok-closer.ensures.own c.passed-self-inside.ensures
    c.alias_in_front-alias.ensures c.before_semicolon-self-inside.ensures c.closed_by-self-inside.ensures c.in_ok-closer.ensures.left
