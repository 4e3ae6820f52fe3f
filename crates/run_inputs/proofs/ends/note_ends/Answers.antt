use Rattle.std.proofs.Common.{rules}
use Rattle.run_inputs.proofs.EndLemmas.{one_noted}
use Rattle.run_inputs.proofs.ends.note_ends.Goals as goal

pub loop-index-preserved : goal.loop-index-preserved
loop-index-preserved g c = record {
  front = one_noted c.loop-index.ends.items c.args.inputs.now c.loop-index.index c.index-inputs-index.result c.end_of.result (search rules) c.loop-index-test.true c.index-inputs-index.is (search rules) c.loop-index.invariant.front;
  long = search rules;
}
