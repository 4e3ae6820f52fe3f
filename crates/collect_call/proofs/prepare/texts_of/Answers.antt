use Rattle.collect_call.proofs.PrepareLemmas.{one_more_made}
use Rattle.collect_call.proofs.prepare.texts_of.Goals as goal

pub loop-output-preserved : goal.loop-output-preserved
loop-output-preserved c =
    one_more_made c.args.elements.now.value c.args.outputs.now c.loop-output.output-index c.output-item.result c.output-item.result c.loop-output.texts.items c.push_texts.new.texts.items c.loop-output-test.true c.output-item.is c.loop-output.invariant
    c.in_ok-push_texts.ensures
