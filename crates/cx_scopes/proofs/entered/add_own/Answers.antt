use Rattle.std.proofs.Common.{rules, ◌∙◌, ap, ◌-◌, reverse}
use Rattle.std.proofs.Math.ListN.{set}
use Rattle.std.proofs.lemmas.Result.{on_ok_weaker}
use Rattle.cx_scopes.proofs.Stacked.{own-written}
use Rattle.cx_scopes.proofs.entered.add_own.Goals as goal

pub returns-clause-ok : goal.returns-clause-ok
returns-clause-ok c =
    on_ok_weaker c.add.result
    (λ e. ap (λ names. reverse (set c.args.entered.now.items (c.len-at.result - 1) (record c.index_mut-last.result.now { own = names }))) e
    ∙ own-written c.args.entered.now.items c.index_mut-last.result.now c.len-at.result c.args.name.now c.args.entity c.requires (search rules) c.index_mut-last.ensures.value)
    c.add.ensures.ok
