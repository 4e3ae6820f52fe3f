use Rattle.std.proofs.Common.{◌∙◌, sym}
use Rattle.file_output.proofs.MessageLemmas.{data_written}
use Rattle.file_output.proofs.message.put_data.Goals as goal

pub returns-clause-ok : goal.returns-clause-ok
returns-clause-ok g c =
    c.in_ok-put_sets.ensures.ok
    ∙ data_written g.S.SetRecords.body c.args.known.now c.args.head c.args.sets.now c.args.out.now c.put_head.new.out c.count_octets.result (sym c.is_empty.ensures ∙ c.if-is_empty.false) c.count_octets.ensures c.in_ok-put_head.ensures.ok
