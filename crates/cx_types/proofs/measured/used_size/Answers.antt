use Rattle.std.proofs.Common.{◌*◌, ◌≤◌, sum, map, ap, ◌∙◌, sym, subst, arith}
use Rattle.cx_types.specs.declared.facts.Measure.{Measure}
use Rattle.cx_type_defs.specs.declared.decl.ClassKey.{ClassKey}
use Rattle.cx_type_defs.specs.Questions.{most, by_key, end_of, widest}
use Rattle.cx_types.specs.Parts.{laid}
use Rattle.cx_types.proofs.Totals.{widest-is, most-size}
use Rattle.cx_types.proofs.measured.used_size.Goals as goal

pub returns-in-Union-clause-exact : goal.returns-in-Union-clause-exact
returns-in-Union-clause-exact c = widest-is c.args.fields.now c.widest_size.result c.widest_size.ensures ∙ sym (ap (λ k. by_key k (widest (map laid c.args.fields.now)) (end_of 0 (map laid c.args.fields.now))) c.in-Union.is)

pub returns-in-Union-clause-near : goal.returns-in-Union-clause-near
returns-in-Union-clause-near c =
    let m = most-size c.args.fields.now c.requires.good c.requires.sized in
    let near : c.widest_size.result ≤ 16 * most (map (λ (m : Measure). m.facts.cells) c.args.fields.now) = omega (arith, c.widest_size.ensures) in
    subst (λ (k : ClassKey). c.widest_size.result ≤ 16 * by_key k (most (map (λ (m : Measure). m.facts.cells) c.args.fields.now)) (sum (map (λ (m : Measure). m.facts.cells) c.args.fields.now))) (sym c.in-Union.is) near
