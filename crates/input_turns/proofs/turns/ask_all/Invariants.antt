use Rattle.std.proofs.Common.{All}
use Rattle.run_input.specs.Inputs.{IsRight}
use Rattle.logged_outputs.specs.Logged.{Took}
use Rattle.input_turns.specs.Turns.{Follows}
use Rattle.input_turns.proofs.turns.ask_all.Given as goal

abbrev pub invariant-loop : goal.invariant-loop
invariant-loop g l = All (IsRight g.S.Source.left g.S.Source.faults) l.inputs.items × Follows g.S.Source.left g.S.Source.faults (Took g.T.MessageTexts.stands g.K.Sink.held g.K.Sink.total g.K.Sink.faults) l.initial.inputs.items l.inputs.items l.initial.taker l.taker
