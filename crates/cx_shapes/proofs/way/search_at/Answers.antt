use Rattle.std.proofs.Common.{map, sym, arith}
use Rattle.cx_shapes.specs.Forms.{form_of}
use Rattle.cx_shapes.proofs.Ends.{told_right, ends_rise, search_gives, search_none, search_few}
use Rattle.cx_shapes.proofs.way.search_at.Goals as goal

pub index_at-index-requires : goal.index_at-index-requires
index_at-index-requires c = ends_rise 0 (map form_of c.args.shapes.now) c.args.ends.now (told_right c.args.ends.now (map form_of c.args.shapes.now) c.requires.few_parts)

pub overflow_cast-result : goal.overflow_cast-result
overflow_cast-result c =
    let few = search_few c.args.shapes.now c.args.ends.now c.args.at c.index_at-index.result c.in-Some.shape.now c.requires c.index_at-index.ensures.from c.index_at-index.ensures.behind (sym c.in-Some.ensures) in
    let all = c.requires.few_nodes in
    omega arith

pub returns-in-None-clause-gives : goal.returns-in-None-clause-gives
returns-in-None-clause-gives c = search_none c.args.shapes.now c.args.ends.now c.args.at c.index_at-index.result c.requires c.index_at-index.ensures.from c.index_at-index.ensures.behind (sym c.in-None.ensures)

pub returns-in-Some-clause-gives : goal.returns-in-Some-clause-gives
returns-in-Some-clause-gives c = search_gives c.args.shapes.now c.args.ends.now c.args.at c.index_at-index.result c.in-Some.shape.now c.before-in-Some.result c.requires c.index_at-index.ensures.from c.index_at-index.ensures.behind (sym c.in-Some.ensures) c.before-in-Some.ensures

pub returns-in-Some-clause-few : goal.returns-in-Some-clause-few
returns-in-Some-clause-few c = search_few c.args.shapes.now c.args.ends.now c.args.at c.index_at-index.result c.in-Some.shape.now c.requires c.index_at-index.ensures.from c.index_at-index.ensures.behind (sym c.in-Some.ensures)
