use Rattle.std.proofs.Common.{◌≡◌, ◌+◌, ◌*◌, take}
use Rattle.record_places.specs.Places.{even_places}
use Rattle.record_places.proofs.even.line_up.Given as goal

abbrev pub invariant-loop-place : goal.invariant-loop-place
invariant-loop-place l = (take l.place-index l.places ≡ even_places l.fn.start l.fn.len l.place-index) × (l.at ≡ l.fn.start + l.place-index * l.fn.len)
