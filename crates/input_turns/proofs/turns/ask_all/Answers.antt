use Rattle.std.proofs.Common.{[]}
use Rattle.logged_outputs.specs.Logged.{Took}
use Rattle.logged_outputs.proofs.EntryLemmas.{takes_none}
use Rattle.input_turns.proofs.TurnLemmas.{all_none, follows_then}
use Rattle.input_turns.proofs.turns.ask_all.Goals as goal

pub loop-init : goal.loop-init
loop-init g c = (c.requires, ([], all_none g.S.Source.left g.S.Source.faults c.args.inputs.now.items, takes_none (Took g.T.MessageTexts.stands g.K.Sink.held g.K.Sink.total g.K.Sink.faults) c.args.taker.now))

pub loop-preserved : goal.loop-preserved
loop-preserved g c = (
  c.round.ensures.right,
  follows_then g.S.Source.left g.S.Source.faults (Took g.T.MessageTexts.stands g.K.Sink.held g.K.Sink.total g.K.Sink.faults) c.args.inputs.now.items c.loop.inputs.items c.round.new.inputs.items c.args.taker.now c.loop.taker c.round.new.taker c.loop.invariant.1 c.round.ensures.follows,
)

pub loop-preserved-then-not-round : goal.loop-preserved-then-not-round
loop-preserved-then-not-round g c = (
  c.round.ensures.right,
  follows_then g.S.Source.left g.S.Source.faults (Took g.T.MessageTexts.stands g.K.Sink.held g.K.Sink.total g.K.Sink.faults) c.args.inputs.now.items c.loop.inputs.items c.round.new.inputs.items c.args.taker.now c.loop.taker c.round.new.taker c.loop.invariant.1 c.round.ensures.follows,
)
