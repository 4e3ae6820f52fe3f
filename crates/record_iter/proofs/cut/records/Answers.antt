use Rattle.std.proofs.Common.{sym, ◌∙◌, arith}
use Rattle.wire_spec.proofs.FixedLemmas.{fixed_records}
use Rattle.record_iter.proofs.cut.records.Goals as goal

pub new-requires : goal.new-requires
new-requires c = let m = c.min_len-least.ensures in ∣ fixed_records c.args.def.now.fields c.args.body.now (sym c.is_fixed.ensures ∙ c.if-is_fixed.true) (omega arith) ∣₁

pub returns-then-is_fixed-clause-are : goal.returns-then-is_fixed-clause-are
returns-then-is_fixed-clause-are c = let m = c.min_len-least.ensures in fixed_records c.args.def.now.fields c.args.body.now (sym c.is_fixed.ensures ∙ c.if-is_fixed.true) (omega arith)
