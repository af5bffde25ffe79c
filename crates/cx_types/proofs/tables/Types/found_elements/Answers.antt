use Rattle.std.proofs.Common.{◌≡◌, ◌*◌, refl, ap, ◌∙◌, inl, inr, arith}
use Rattle.cx_types.proofs.Rows.{array-large, array-found}
use Rattle.cx_types.proofs.tables.Types.found_elements.Goals as goal
use Rattle.cx_types.proofs.tables.Types.found_elements.Goals.{then-element-ge-MOST_DEPTH-via-then-element-ge-MOST_DEPTH, then-element-ge-MOST_DEPTH-via-else-element-ge-MOST_DEPTH+then-cells-gt-MOST_CELLS, then-element-ge-MOST_DEPTH-via-else-element-ge-MOST_DEPTH+else-cells-gt-MOST_CELLS+then-element-ge-MOST_NODES}

pub returns-then-element-ge-MOST_DEPTH : goal.returns-then-element-ge-MOST_DEPTH
returns-then-element-ge-MOST_DEPTH c =
    let p = c.requires.plain in
    let cells : c.from.result * c.from-2.result ≡ c.args.n * c.args.element.facts.cells = ap (λ x. x * c.from-2.result) c.from.ensures ∙ ap (λ x. c.args.n * x) c.from-2.ensures in
    array-large c.args.self.now c.args.id c.args.of c.args.n p.0 c.args.element p.1 p.2 c.requires.kept c.requires.known.1
    (elim c.then-element-ge-MOST_DEPTH.branch [
      | then-element-ge-MOST_DEPTH-via-then-element-ge-MOST_DEPTH w ↦ inl (omega (arith, w.if-element-ge-MOST_DEPTH.true))
      | then-element-ge-MOST_DEPTH-via-else-element-ge-MOST_DEPTH+then-cells-gt-MOST_CELLS w ↦ inr (inl (omega (arith, w.if-cells-gt-MOST_CELLS.true, cells)))
      | then-element-ge-MOST_DEPTH-via-else-element-ge-MOST_DEPTH+else-cells-gt-MOST_CELLS+then-element-ge-MOST_NODES w ↦ inr (inr (omega (arith, w.if-element-ge-MOST_NODES.true)))
    ])

pub returns : goal.returns
returns c =
    let p = c.requires.plain in
    let cells : c.from.result * c.from-2.result ≡ c.args.n * c.args.element.facts.cells = ap (λ x. x * c.from-2.result) c.from.ensures ∙ ap (λ x. c.args.n * x) c.from-2.ensures in
    array-found c.args.self.now c.args.id c.args.of c.args.n p.0 c.args.element p.1 p.2 c.requires.kept c.requires.known.1 _ refl cells refl refl refl refl (omega (arith, c.if-element-ge-MOST_DEPTH.false)) (omega (arith, c.if-cells-gt-MOST_CELLS.false)) (omega (arith, c.if-element-ge-MOST_NODES.false))
