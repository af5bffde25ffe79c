use Rattle.std.proofs.Common.{◌+◌, ◌<◌, ◌++◌, map, refl, inl, arith}
use Rattle.cx_types.specs.declared.facts.Measure.{Measure}
use Rattle.cx_type_defs.specs.Questions.{most}
use Rattle.cx_types.proofs.Rows.{large-true}
use Rattle.cx_types.proofs.Totals.{most-small, depth-is, measured-known}
use Rattle.cx_types.proofs.measured.measured.Goals as goal

pub overflow_add-depth : goal.overflow_add-depth
overflow_add-depth c = omega (arith, c.max-depth.ensures, c.deepest.ensures, c.deepest-2.ensures, most-small c.args.bases.now c.requires.good_bases, most-small c.args.fields.now c.requires.good_fields)

pub returns-then-depth-gt-MOST_DEPTH : goal.returns-then-depth-gt-MOST_DEPTH
returns-then-depth-gt-MOST_DEPTH c =
    let d = depth-is (map (λ (m : Measure). m.facts.depth) c.args.bases.now) (map (λ (m : Measure). m.facts.depth) c.args.fields.now) c.max-depth.result c.deepest.result c.deepest-2.result c.max-depth.ensures c.deepest.ensures c.deepest-2.ensures in
    let w : 512 < most (map (λ (m : Measure). m.facts.depth) c.args.bases.now ++ map (λ (m : Measure). m.facts.depth) c.args.fields.now) + 1 = omega (arith, c.if-depth-gt-MOST_DEPTH.true, d) in
    large-true _ _ _ (most (map (λ (m : Measure). m.facts.depth) c.args.bases.now ++ map (λ (m : Measure). m.facts.depth) c.args.fields.now) + 1) _ _ refl refl refl (inl w)

pub returns : goal.returns
returns c =
    measured-known c.args.key c.args.flags c.args.bases.now c.args.fields.now _
    (depth-is (map (λ (m : Measure). m.facts.depth) c.args.bases.now) (map (λ (m : Measure). m.facts.depth) c.args.fields.now) c.max-depth.result c.deepest.result c.deepest-2.result c.max-depth.ensures c.deepest.ensures c.deepest-2.ensures)
    c.class_cells-cells.ensures c.class_nodes-nodes.ensures c.class_literal.ensures c.plain_extent.ensures.exact c.plain_extent.ensures.fits (omega (arith, c.if-depth-gt-MOST_DEPTH.false)) (omega (arith, c.if-cells-gt-MOST_CELLS.false)) (omega (arith, c.if-nodes-gt-MOST_NODES.false))
