use Rattle.std.proofs.Common.{rules}
use Rattle.std.proofs.lemmas.List.Sorted.{IsPartitionPoint-from_clause}
use Rattle.template_snapshot.specs.Entry.{is_up_to}
use Rattle.template_snapshot.proofs.FrontLemmas.{front_from, parted}
use Rattle.template_snapshot.proofs.snapshot.count_up_to.Goals as goal

pub returns : goal.returns
returns c =
    let p = is_up_to c.args.e c.args.id in
    front_from p c.args.rows.now c.partition_point.result c.partition_point.ensures.bound
    (IsPartitionPoint-from_clause p c.args.rows.now c.partition_point.result c.partition_point.ensures.partitioned (parted c.args.e c.args.id c.args.rows.now c.requires) (λ a r f k. search rules))
