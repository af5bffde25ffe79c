use Rattle.std.proofs.Common.{◌≡◌, ◌<◌, ◌^◌, true, map, take}
use Rattle.cx_shapes.specs.Forms.{form_of, forms_of, are_ends, sizes, nodes_in}
use Rattle.cx_shapes.proofs.measure.+measured.Given as goal

abbrev pub invariant-all_measured-loop-i : goal.invariant-all_measured-loop-i
invariant-all_measured-loop-i l = record {
  parts : l.total.parts ≡ sizes (forms_of (map form_of (take l.i l.shapes)));
  nodes : l.total.nodes ≡ nodes_in (forms_of (map form_of (take l.i l.shapes)));
  few_parts : l.total.parts < 2 ^ 62;
  few_nodes : l.total.nodes < 2 ^ 32;
  told_ends : are_ends 0 (map form_of (take l.i l.shapes)) (take l.i l.ends) ≡ true;
}
