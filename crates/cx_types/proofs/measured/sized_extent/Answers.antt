use Rattle.std.proofs.Common.{◌≡◌, ℕ, max, map, ap, ◌∙◌, arith}
use Rattle.cx_type_defs.specs.declared.decl.Extent.{Extent}
use Rattle.cx_type_defs.specs.Questions.{by_key, end_of, widest, strictest, rounded}
use Rattle.cx_types.specs.Parts.{laid}
use Rattle.cx_types.proofs.Totals.{strictest-is, most-align}
use Rattle.cx_types.proofs.measured.sized_extent.Goals as goal

pub round_up-requires-clause-few : goal.round_up-requires-clause-few
round_up-requires-clause-few c = omega (arith, c.max-align.ensures, c.strictest_align.ensures, most-align c.args.fields.now c.requires.good c.requires.sized)

pub returns-clause-exact : goal.returns-clause-exact
returns-clause-exact c =
    let both : ℕ → ℕ → Extent = λ x y. record { size = x; align = y } in
    let a = c.max-align.ensures ∙ strictest-is c.args.fields.now c.strictest_align.result c.strictest_align.ensures in
    let swap : max c.round_up.result 1 ≡ max 1 c.round_up.result = omega arith in
    let s = c.max.ensures ∙ swap ∙ ap (max 1) (c.round_up.ensures.exact ∙ ap (λ u. rounded u c.max-align.result) c.used_size-used.ensures.exact ∙ ap (rounded (by_key c.args.key (widest (map laid c.args.fields.now)) (end_of 0 (map laid c.args.fields.now)))) a) in
    ap (λ x. both x c.max-align.result) s ∙ ap (both (max 1 (rounded (by_key c.args.key (widest (map laid c.args.fields.now)) (end_of 0 (map laid c.args.fields.now))) (strictest (map laid c.args.fields.now))))) a

pub returns-clause-fits : goal.returns-clause-fits
returns-clause-fits c = record {
  size_fits = omega (arith, c.max.ensures, c.round_up.ensures.near, c.used_size-used.ensures.near);
  least_align = omega (arith, c.max-align.ensures);
  most_align = omega (arith, c.max-align.ensures, c.strictest_align.ensures, most-align c.args.fields.now c.requires.good c.requires.sized);
}
