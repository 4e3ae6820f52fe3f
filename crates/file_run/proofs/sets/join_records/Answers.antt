use Rattle.std.proofs.Common.{sym, ◌∙◌}
use Rattle.file_run.proofs.JoinLemmas.{one_joined, same_record}
use Rattle.file_run.proofs.sets.join_records.Goals as goal

pub loop-word-preserved : goal.loop-word-preserved
loop-word-preserved c =
    let read = c.deref-in-loop-word.result.now in
    let record_read = c.deref-in-loop-word-2.result.now in
    let is = same_record c.deref.result.now c.args.def.value read record_read c.deref.ensures (c.deref-in-loop-word.ensures.value ∙ sym c.deref-in-loop-word-2.ensures.value) (c.is_one_record.ensures c.if-not-is_one_record.false) in
    one_joined c.args.def.value.fields c.loop-word.octets c.extend.new.self record_read c.loop-word.invariant is (c.in_ok-extend.ensures.ok)
