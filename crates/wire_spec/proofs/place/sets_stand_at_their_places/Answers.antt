use Rattle.std.proofs.Common.{refl}
use Rattle.wire_spec.proofs.PlaceLemmas.{next_set, set_at}
use Rattle.wire_spec.proofs.place.sets_stand_at_their_places.Goals as goal

pub returns : goal.returns
returns c = record { first = λ sets. refl; next = next_set; stand = set_at }
