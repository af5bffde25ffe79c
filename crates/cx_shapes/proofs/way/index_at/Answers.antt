use Rattle.std.proofs.Common.{leb, rules}
use Rattle.std.proofs.lemmas.List.Sorted.{IsPartitionPoint-from_clause, IsPartitionedBy-leb}
use Rattle.cx_shapes.proofs.Ends.{point_starts}
use Rattle.cx_shapes.proofs.way.index_at.Goals as goal

pub returns-clause-from : goal.returns-clause-from
returns-clause-from c =
    let parted = IsPartitionedBy-leb (λ x. x) c.args.ends.now c.args.at c.requires in
    let point = IsPartitionPoint-from_clause (λ x. leb x c.args.at) _ _ c.partition_point.ensures.partitioned parted (λ a r q k. search rules) in
    (point_starts c.args.ends.now c.args.at c.partition_point.result c.partition_point.ensures.bound point).0

pub returns-clause-behind : goal.returns-clause-behind
returns-clause-behind c =
    let parted = IsPartitionedBy-leb (λ x. x) c.args.ends.now c.args.at c.requires in
    let point = IsPartitionPoint-from_clause (λ x. leb x c.args.at) _ _ c.partition_point.ensures.partitioned parted (λ a r q k. search rules) in
    (point_starts c.args.ends.now c.args.at c.partition_point.result c.partition_point.ensures.bound point).1
