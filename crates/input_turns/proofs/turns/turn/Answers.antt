use Rattle.std.proofs.Common.{[]}
use Rattle.logged_outputs.specs.Logged.{Took}
use Rattle.logged_outputs.proofs.EntryLemmas.{takes_none}
use Rattle.input_turns.proofs.TurnLemmas.{gives_none, turned_then}
use Rattle.input_turns.proofs.turns.turn.Goals as goal

pub loop-asked-init : goal.loop-asked-init
loop-asked-init g c = (c.requires, ([], gives_none g.S.Source.left g.S.Source.faults c.args.input.now, takes_none (Took g.T.MessageTexts.stands g.K.Sink.held g.K.Sink.total g.K.Sink.faults) c.args.taker.now))

pub loop-asked-preserved : goal.loop-asked-preserved
loop-asked-preserved g c = (
  c.ask.ensures.right,
  turned_then g.S.Source.left g.S.Source.faults (Took g.T.MessageTexts.stands g.K.Sink.held g.K.Sink.total g.K.Sink.faults) c.args.input.now c.loop-asked.input c.ask.new.input c.args.taker.now c.loop-asked.taker c.ask.new.taker c.loop-asked.invariant.1 c.ask.ensures.turned,
)

pub returns-then-is_some-clause-turned : goal.returns-then-is_some-clause-turned
returns-then-is_some-clause-turned g c = ([], gives_none g.S.Source.left g.S.Source.faults c.args.input.now, takes_none (Took g.T.MessageTexts.stands g.K.Sink.held g.K.Sink.total g.K.Sink.faults) c.args.taker.now)

pub returns-then-asked-gt0-clause-turned : goal.returns-then-asked-gt0-clause-turned
returns-then-asked-gt0-clause-turned g c = turned_then g.S.Source.left g.S.Source.faults (Took g.T.MessageTexts.stands g.K.Sink.held g.K.Sink.total g.K.Sink.faults) c.args.input.now c.loop-asked.input c.ask.new.input c.args.taker.now c.loop-asked.taker c.ask.new.taker c.loop-asked.invariant.1 c.ask.ensures.turned

pub returns-else-asked-gt0-clause-turned : goal.returns-else-asked-gt0-clause-turned
returns-else-asked-gt0-clause-turned g c = turned_then g.S.Source.left g.S.Source.faults (Took g.T.MessageTexts.stands g.K.Sink.held g.K.Sink.total g.K.Sink.faults) c.args.input.now c.loop-asked.input c.ask.new.input c.args.taker.now c.loop-asked.taker c.ask.new.taker c.loop-asked.invariant.1 c.ask.ensures.turned
