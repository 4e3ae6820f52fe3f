use Rattle.wire_spec.proofs.RecordLemmas.{first_begins}
use Rattle.record_iter.proofs.record_walk.first_record.Goals as goal

pub returns : goal.returns
returns c = first_begins c.args.fields.now c.args.octets.now c.requires c.record_size.result c.record_size.ensures
