use Rattle.std.proofs.Common.{◌≡◌, List, length}
use Rattle.arrival_spec.specs.declared.event.Scripted.{Scripted}
use Rattle.file_lines.specs.Run.{SoFar}
use Rattle.file_lines.proofs.run.read_all.Given as goal

abbrev pub invariant-loop : goal.invariant-loop
invariant-loop g l = (given : List Scripted) × SoFar g.S.Source.left g.S.Source.faults g.K.Sink.held g.K.Sink.faults given l.initial.inlet.source l.inlet l.initial.sink l.sink l.sessions l.texts × (length given ≡ l.counter)
