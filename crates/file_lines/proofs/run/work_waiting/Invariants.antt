use Rattle.std.proofs.Common.{◌≡◌, None}
use Rattle.input_lane.specs.Inlets.{still_left}
use Rattle.file_lines.specs.Run.{WorksWaiting}
use Rattle.file_lines.proofs.run.work_waiting.Given as goal

abbrev pub invariant-loop-answer : goal.invariant-loop-answer
invariant-loop-answer g l = record {
  source : l.inlet.source ≡ l.initial.inlet.source;
  works : WorksWaiting g.K.Sink.held g.K.Sink.faults l.initial.inlet.lane l.inlet.lane l.initial.sessions l.sessions l.initial.texts l.texts l.initial.sink l.sink None;
}

abbrev pub decreases-loop-answer : goal.decreases-loop-answer
decreases-loop-answer g l = still_left l.inlet.lane
