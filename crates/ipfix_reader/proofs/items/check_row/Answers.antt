use Rattle.wire_spec.proofs.BeginsLemmas.{row_further}
use Rattle.ipfix_reader.proofs.items.check_row.Goals as goal

pub loop-rest-preserved : goal.loop-rest-preserved
loop-rest-preserved g c =
    let i = c.loop-rest.invariant in
    row_further (g.K.Items.is c.args.kind.now) c.args.octets.now c.loop-rest.rest.now c.behind-rest.result.now c.loop-rest.at c.in-Ok.count i.0 i.1 i.2 i.3 c.in-Ok.ensures.first c.behind-rest.ensures
