use Rattle.std.proofs.Common.{sym}
use Rattle.wire_spec.proofs.ValueLemmas.{value_there}
use Rattle.record_iter.proofs.field_walk.split_value.Goals as goal

pub value_in-requires : goal.value_in-requires
value_in-requires c =
    let v = value_there c.args.len c.args.octets.now c.in-Some.size (sym c.in-Some.ensures) in
    rw c.split_at.ensures.front (v.1, v.2)
