use Rattle.std.proofs.Common.{arith, refl, ◌∙◌, ◌+◌, sym}
use Rattle.std.proofs.lemmas.List.{length-set}
use Rattle.logged_outputs.specs.Outputs.{PutsMessage}
use Rattle.logged_outputs.proofs.BehindLemmas.{all_changed, next_changed}
use Rattle.logged_outputs.proofs.outputs.put_to_all.Goals as goal

pub loop-index-init : goal.loop-index-init
loop-index-init g c = (refl, refl)

pub loop-index-preserved : goal.loop-index-preserved
loop-index-preserved g c = (
  next_changed (PutsMessage g.K.Sink.held g.K.Sink.total g.K.Sink.faults g.T.MessageTexts.stands c.args.message.now) c.loop-index.index (c.loop-index.index + 1) c.args.outputs.now.items c.loop-index.outputs.items c.index_mut.result.now c.index_mut.result.now c.put.new.self
      (let long = c.loop-index.invariant.1 in let most = c.loop-index-test.true in let all = c.len-index-end.ensures in omega (arith, long, most, all)) (omega arith) c.index_mut.ensures.value c.put.ensures c.loop-index.invariant.0,
  length-set c.loop-index.outputs.items c.loop-index.index c.put.new.self ∙ c.loop-index.invariant.1,
)

pub returns : goal.returns
returns g c =
    all_changed (PutsMessage g.K.Sink.held g.K.Sink.total g.K.Sink.faults g.T.MessageTexts.stands c.args.message.now) 0 c.loop-index.index c.args.outputs.now.items c.loop-index.outputs.items
    (let long = c.loop-index.invariant.1 in let least = c.loop-index-test.false in let most = c.loop-index.auto.index-end in let all = c.len-index-end.ensures in omega (arith, long, least, most, all)) c.loop-index.invariant.0
