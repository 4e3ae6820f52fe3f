use Rattle.std.proofs.Common.{arith}
use Rattle.viewer_output.proofs.FieldLemmas.{fields_more, fields_all}
use Rattle.viewer_output.proofs.record.put_fields.Goals as goal

pub loop-number-preserved : goal.loop-number-preserved
loop-number-preserved c = fields_more c.args.elements.now c.args.fields.now c.loop-number.number _ c.args.draft.now c.loop-number.draft c.put_field.new.draft c.requires (omega (arith, c.loop-number-test.true)) c.loop-number.invariant c.in_ok-put_field.ensures

pub returns : goal.returns
returns c = fields_all c.args.elements.now c.args.fields.now c.loop-number.number c.args.draft.now c.loop-number.draft c.requires (omega (arith, c.loop-number-test.false)) c.loop-number.invariant
