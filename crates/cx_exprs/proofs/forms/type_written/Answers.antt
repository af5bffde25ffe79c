use Rattle.std.proofs.Common.{◌≡◌, rules, None, false, length}
use Rattle.cx_tree.specs.declared.exprs.Clause.TheViews.{out-TypeId}
use Rattle.cx_exprs.specs.TypeWords.{is_decorated, specifiers}
use Rattle.cx_exprs.specs.Typing.{first_rule}
use Rattle.cx_exprs.proofs.FormsMade.{type_plain}
use Rattle.cx_exprs.proofs.forms.type_written.Goals as goal

pub returns-clause-ok : goal.returns-clause-ok
returns-clause-ok g c =
    let e : None ≡ first_rule (specifiers c.named_type-named.result c.consts_of.result).tests = search (rules, c.specifiers_rule.ensures, c.in_default.not-Some) in
    let d : false ≡ is_decorated (out-TypeId c.args.ty.now).ptrs (length (out-TypeId c.args.ty.now).bounds) = search (rules, c.is_decorated.ensures, c.if-is_decorated.false, c.len.ensures) in
    type_plain c.args.ty.now _ c.named_type-named.result c.consts_of.result c.int_in.result c.named_type-named.ensures c.consts_of.ensures e d c.int_in.ensures
