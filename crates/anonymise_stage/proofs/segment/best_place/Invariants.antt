use Rattle.std.proofs.Common.{◌≡◌, ◌<◌, take, length}
use Rattle.std.specs.Prelude.{IfSome}
use Rattle.anonymise_stage.specs.Segments.{best_at, row_at}
use Rattle.anonymise_stage.proofs.segment.best_place.Given as goal

abbrev pub invariant-loop-place : goal.invariant-loop-place
invariant-loop-place l = record { so_far : row_at l.rows l.found ≡ best_at l.octets l.number (take l.place l.rows); inside : IfSome l.found (λ place. place < length l.rows) }
