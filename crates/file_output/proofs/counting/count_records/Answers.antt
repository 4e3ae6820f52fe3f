use Rattle.std.proofs.Common.{◌<◌, ◌++◌, ◌∷◌, [], List, ℕ, length, subst, ap, ◌∙◌, arith}
use Rattle.wire_spec.specs.Record.{shortest}
use Rattle.wire_spec.proofs.RecordLemmas.{one_list}
use Rattle.record_iter.specs.Left.{records_left, fields_of_each}
use Rattle.record_iter.proofs.WalkLemmas.{record_given, records_more, records_all}
use Rattle.file_output.proofs.CountedLemmas.{none_short, one_counted}
use Rattle.file_output.proofs.counting.count_records.Goals as goal

pub returns-then-octets-min_len-clause-records : goal.returns-then-octets-min_len-clause-records
returns-then-octets-min_len-clause-records c = λ list are. none_short c.args.definition.now.fields c.args.octets.now list (let is = c.min_len.ensures.is in let less = c.if-octets-min_len.true in omega arith) are

pub loop-record-preserved : goal.loop-record-preserved
loop-record-preserved c =
    let i = c.loop-record.invariant in
    let fields = c.args.definition.now.fields in
    let it = c.next.new.self in
    let old = c.loop-record._record-iterator in
    let rec = c.in-Some._record.now in
    let some : 0 < shortest fields = subst (λ n. 0 < n) c.min_len.ensures.is c.min_len.ensures.some in
    let one = one_counted fields c.args.octets.now (records_left old) rec (records_left it) i.0 c.loop-record.count some (record_given (fields_of_each it) rec (records_left it) i.1 c.in-Some.ensures.steps) c.in-Some.ensures.steps.0.0 i.2 i.3 in
    (i.0 ++ rec ∷ [], records_more (fields_of_each it) rec (records_left it) i.1 c.in-Some.ensures.steps, one.0, one.1)

pub returns-clause-records : goal.returns-clause-records
returns-clause-records c = λ list are.
    (let i = c.loop-record.invariant in
    let fields = c.args.definition.now.fields in
    let it = c.next.new.self in
    let some : 0 < shortest fields = subst (λ n. 0 < n) c.min_len.ensures.is c.min_len.ensures.some in
    i.2 ∙ ap (λ (l : List (List ℕ)). length l) (one_list fields some c.args.octets.now i.0 list (records_all (fields_of_each it) (records_left it) i.1 c.in-None.ensures.steps) are))
