use Rattle.std.proofs.Common.{length, refl, arith}
use Rattle.std.specs.List.{concat}
use Rattle.wire_spec.proofs.BeginsLemmas.{row_further}
use Rattle.wire_spec.specs.Record.{IsSomeRecord}
use Rattle.wire_spec.proofs.RecordLemmas.{no_list}
use Rattle.record_iter.proofs.record_walk.are_records.Goals as goal

pub returns-in_default : goal.returns-in_default
returns-in_default c = λ s.
    (let i = c.loop-rest.invariant in
    no_list c.args.fields.now (omega arith) c.args.body.now c.loop-rest.rest.now i.0 i.1 i.2 (λ short. omega arith) c.in_default.ensures s.0 s.1)

pub loop-rest-preserved : goal.loop-rest-preserved
loop-rest-preserved c =
    let i = c.loop-rest.invariant in
    let r = row_further (IsSomeRecord c.args.fields.now) c.args.body.now c.loop-rest.rest.now c.behind-rest.result.now (length (concat i.0)) c.in-Some.count i.0 i.1 i.2 refl c.in-Some.ensures c.behind-rest.ensures in
    (r.0, r.1, r.2)
