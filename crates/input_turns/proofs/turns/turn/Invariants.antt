use Rattle.run_input.specs.Inputs.{IsRight}
use Rattle.logged_outputs.specs.Logged.{Took}
use Rattle.input_turns.specs.Turns.{Turned}
use Rattle.input_turns.proofs.turns.turn.Given as goal

abbrev pub invariant-loop-asked : goal.invariant-loop-asked
invariant-loop-asked g l = IsRight g.S.Source.left g.S.Source.faults l.input × Turned g.S.Source.left g.S.Source.faults (Took g.T.MessageTexts.stands g.K.Sink.held g.K.Sink.total g.K.Sink.faults) l.initial.input l.input l.initial.taker l.taker
