use Rattle.std.proofs.Common.{ℕ, ◌<◌, List, ◌∙◌, ap, sym, subst, arith}
use Rattle.wire_spec.specs.Record.{shortest}
use Rattle.record_iter.specs.Left.{records_left, fields_of_each}
use Rattle.json_output.proofs.RecordsLemmas.{HaveLines, lines_more, lines_front, lines_all, on_err}
use Rattle.json_output.proofs.records.put_records.Goals as goal

pub loop-rec-preserved : goal.loop-rec-preserved
loop-rec-preserved c =
    let old = c.loop-rec.rec-iterator in
    let new = c.next.new.self in
    lines_more c.args.def.now c.args.prepared.now c.args.body.now (fields_of_each old) (records_left old) c.args.lines.now c.loop-rec.lines c.put_line.new.lines
    (fields_of_each new) c.in-Some.rec.now (records_left new) c.loop-rec.invariant c.in-Some.ensures.steps c.in_ok-put_line.ensures.ok

pub returns-in_err-put_line-clause-err : goal.returns-in_err-put_line-clause-err
returns-in_err-put_line-clause-err c =
    let old = c.loop-rec.rec-iterator in
    let least = c.in-Ok.walk.shortest ∙ ap shortest c.in-Ok.ensures.left.0 in
    let some : 0 < shortest c.args.def.now.fields = omega (arith, c.in-Ok.walk.some, least) in
    let have = subst (λ (l : List ℕ). HaveLines c.args.def.now c.args.prepared.now c.args.body.now (fields_of_each old) (records_left old) c.args.lines.now l) (sym c.in_err-put_line.ensures.err) c.loop-rec.invariant in
    on_err c.from_residual.result (lines_front c.args.def.now some c.args.prepared.now c.args.body.now (fields_of_each old) (records_left old) c.args.lines.now c.put_line.new.lines have)

pub returns-clause-ok : goal.returns-clause-ok
returns-clause-ok c =
    let old = c.loop-rec.rec-iterator in
    let new = c.next.new.self in
    let least = c.in-Ok.walk.shortest ∙ ap shortest c.in-Ok.ensures.left.0 in
    let some : 0 < shortest c.args.def.now.fields = omega (arith, c.in-Ok.walk.some, least) in
    lines_all c.args.def.now some c.args.prepared.now c.args.body.now (fields_of_each old) (records_left old) c.args.lines.now c.loop-rec.lines (fields_of_each new) (records_left new) c.loop-rec.invariant c.in-None.ensures.steps
