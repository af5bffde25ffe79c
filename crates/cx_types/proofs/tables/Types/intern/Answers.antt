use Rattle.std.proofs.Common.{◌≡◌, ℕ, [], ◌∷◌, ◌++◌, true, sym, subst, arith}
use Rattle.cx_type_defs.specs.Tables.{Tables, IsKnown}
use Rattle.cx_type_defs.specs.Same.{is_normal}
use Rattle.cx_types.specs.Kept.{MayCome}
use Rattle.cx_types.proofs.Coming.{absent-before}
use Rattle.cx_types.proofs.Whole.{All-row}
use Rattle.cx_types.proofs.tables.Types.intern.Goals as goal

pub invariant_of-self-then-fresh : goal.invariant_of-self-then-fresh
invariant_of-self-then-fresh c =
    let pushed : c.push.new.self.items ≡ c.self.inside.facts.items ++ c.in_ok-facts.facts ∷ [] = grind (arith, c.push.ensures.items, c.reserve.ensures.items, c.unwrap.ensures) in
    let known = subst (λ (t : Tables). IsKnown t c.args.row.kind) (sym c.self.view_is) c.requires.known in
    let normal = subst (λ (t : Tables). is_normal t c.args.row ≡ true) (sym c.self.view_is) c.requires.normal in
    let view = subst (λ (t : Tables). MayCome t (record { 0 = c.len.result }) c.args.row.kind c.in_ok-facts.facts) (sym c.self.view_is) c.in_ok-facts.ensures.1 in
    let may = subst (λ (n : ℕ). MayCome (record { rows = c.self.inside.rows; classes = c.self.inside.classes.items; enums = c.self.inside.enums.items }) (record { 0 = n }) c.args.row.kind c.in_ok-facts.facts) c.len.ensures view in
    let absent = absent-before c.self.inside.rows _ c.args.row _ (c.in-Ok-add.ensures.fresh c.if-fresh.true) c.in-Ok-add.ensures.once in
    rw (c.in-Ok-add.ensures.fresh c.if-fresh.true, pushed) (All-row _ c.args.row c.in_ok-facts.facts _ _ _ known normal absent may c.self.invariant)
