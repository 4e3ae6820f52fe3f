use Rattle.std.proofs.Common.{◌≡◌, take, map}
use Rattle.std.specs.List.{AllByRecursion}
use Rattle.anonymise_stage.specs.Segments.{Decides, start_of}
use Rattle.anonymise_stage.proofs.segment.segments.Given as goal

abbrev pub invariant-loop-start : goal.invariant-loop-start
invariant-loop-start l = record { starts : map start_of l.segments.items ≡ take l.start-index l.start-items; each : AllByRecursion (Decides l.octets l.rows) l.segments.items }
