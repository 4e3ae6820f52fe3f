use Rattle.prepared_lines.proofs.PlaceLemmas.{HavePlaces}
use Rattle.prepared_lines.proofs.places.find_places.Given as goal

abbrev pub invariant-loop-field : goal.invariant-loop-field
invariant-loop-field l = HavePlaces l.fn.fields l.fn.rec l.field-index l.at l.places.items
