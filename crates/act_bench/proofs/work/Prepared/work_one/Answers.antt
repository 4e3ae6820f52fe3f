use Rattle.std.proofs.Common.{◌∙◌, sym, arith}
use Rattle.wire_spec.proofs.FixedLemmas.{fixed_record}
use Rattle.act_bench.proofs.work.Prepared.work_one.Goals as goal

pub keeps-requires-clause-is_record : goal.keeps-requires-clause-is_record
keeps-requires-clause-is_record c =
    let least = c.min_len.ensures.is in
    fixed_record c.args.def.now.fields c.args.rec.now (sym c.is_fixed.ensures ∙ c.if-not-is_fixed.false) (omega arith)

pub hide-requires-clause-is_record : goal.hide-requires-clause-is_record
hide-requires-clause-is_record c =
    let least = c.min_len.ensures.is in
    fixed_record c.args.def.now.fields c.args.rec.now (sym c.is_fixed.ensures ∙ c.if-not-is_fixed.false) (omega arith)
