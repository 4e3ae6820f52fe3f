use Rattle.std.proofs.Common.{◌≡◌, ◌++◌, drop}
use Rattle.prepared_lines.specs.Places.{fixed_places}
use Rattle.prepared_lines.proofs.places.fixed_places.Given as goal

abbrev pub invariant-loop-field : goal.invariant-loop-field
invariant-loop-field l = l.places.items ++ fixed_places l.at (drop l.field-index l.fields) ≡ fixed_places 0 l.fields
