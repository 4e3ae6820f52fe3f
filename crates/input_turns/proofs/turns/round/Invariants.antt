use Rattle.std.proofs.Common.{All, ◌≡◌, false, length, take}
use Rattle.run_input.specs.Inputs.{IsRight}
use Rattle.logged_outputs.specs.Logged.{Took}
use Rattle.input_turns.specs.Turns.{Follows, HadNothing}
use Rattle.input_turns.proofs.turns.round.Given as goal

abbrev pub invariant-loop-i : goal.invariant-loop-i
invariant-loop-i g l =
    All (IsRight g.S.Source.left g.S.Source.faults) l.inputs.items × Follows g.S.Source.left g.S.Source.faults (Took g.T.MessageTexts.stands g.K.Sink.held g.K.Sink.total g.K.Sink.faults) l.initial.inputs.items l.inputs.items l.initial.taker l.taker
    × (l.came ≡ false → All (HadNothing g.S.Source.left g.S.Source.faults) (take l.i l.inputs.items))
    × (length l.inputs.items ≡ length l.initial.inputs.items)
