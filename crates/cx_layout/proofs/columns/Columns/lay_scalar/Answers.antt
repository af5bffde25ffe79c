use Rattle.std.proofs.Common.{subst, sym, ap}
use Rattle.cx_layout.specs.declared.columns.Node.{Node}
use Rattle.cx_layout.specs.Forms.{Leaf}
use Rattle.cx_layout.specs.Laying.{Lays}
use Rattle.cx_layout.proofs.Filling.{leaf_lays}
use Rattle.cx_layout.proofs.columns.Columns.lay_scalar.Goals as goal

pub returns : goal.returns
returns c =
    let e = c.open_node.ensures in
    subst (λ ns. Lays c.args.self.now.nodes.items c.args.self.now.parts.items ns c.args.self.now.parts.items c.args.under Leaf 1) (sym c.in_ok-push.ensures.ok)
    (leaf_lays c.args.self.now.nodes.items c.args.self.now.parts.items c.open_node.result c.args.under (ap (λ (x : Node). x.kind) e) (ap (λ (x : Node). x.cells) e) (ap (λ (x : Node). x.under) e))
