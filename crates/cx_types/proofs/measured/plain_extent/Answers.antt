use Rattle.std.proofs.Common.{◌≡◌, length, Some, ap, ◌∙◌, sym, arith}
use Rattle.cx_types.proofs.Totals.{empty-unsized, empty-sized}
use Rattle.cx_types.proofs.measured.plain_extent.Goals as goal

pub returns-then-not-all_sized-clause-exact : goal.returns-then-not-all_sized-clause-exact
returns-then-not-all_sized-clause-exact c =
    let l : length c.args.bases.now ≡ 0 = grind (arith, c.is_empty.ensures, c.if-not-is_empty.false) in
    empty-unsized c.args.key c.args.flags c.args.bases.now c.args.fields.now l c.if-flags.false (sym c.all_sized.ensures ∙ c.if-not-all_sized.true)

pub returns-clause-exact : goal.returns-clause-exact
returns-clause-exact c =
    let l : length c.args.bases.now ≡ 0 = grind (arith, c.is_empty.ensures, c.if-not-is_empty.false) in
    ap Some c.sized_extent.ensures.exact ∙ empty-sized c.args.key c.args.flags c.args.bases.now c.args.fields.now l c.if-flags.false (sym c.all_sized.ensures ∙ c.if-not-all_sized.false)
