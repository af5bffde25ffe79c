use Rattle.std.proofs.Common.{arith}
use Rattle.cx_shapes.proofs.Counting.{sizes_more, nodes_more}
use Rattle.cx_shapes.proofs.Ends.{ends_more, all_told}
use Rattle.cx_shapes.proofs.measure.+measured.Goals as goal

pub all_measured-loop-i-preserved : goal.all_measured-loop-i-preserved
all_measured-loop-i-preserved t c =
    let xs = c.args.shapes.now in
    let i = c.loop-i.i in
    let x = c.index-shapes-i.result in
    let s = sizes_more xs i x (omega arith) c.index-shapes-i.is in
    let n = nodes_more xs i x (omega arith) c.index-shapes-i.is in
    record {
      parts = omega (arith, c.in_ok-total.ensures, c.in_ok-next.ensures);
      nodes = omega (arith, c.in_ok-total.ensures, c.in_ok-next.ensures);
      few_parts = omega (arith, c.in_ok-total.ensures);
      few_nodes = omega (arith, c.in_ok-total.ensures);
      told_ends = ends_more xs c.args.ends.now i x (omega arith) (omega arith) c.index-shapes-i.is c.loop-i.invariant.told_ends (omega (arith, c.in_ok-total.ensures, c.in_ok-next.ensures));
    }

pub all_measured-returns : goal.all_measured-returns
all_measured-returns t c =
    let m = all_told c.args.shapes.now c.args.ends.now c.loop-i.i c.loop-i.total.parts c.loop-i.total.nodes (omega arith) (omega arith) c.loop-i.invariant.told_ends c.loop-i.invariant.parts c.loop-i.invariant.nodes in
    (m.0, m.1, c.loop-i.invariant.few_parts)
