use Rattle.std.proofs.Common.{refl}
use Rattle.wire_spec.proofs.PlaceLemmas.{next_record, record_at}
use Rattle.wire_spec.proofs.place.template_records_stand_at_their_places.Goals as goal

pub returns : goal.returns
returns c = record { first = λ records. refl; next = next_record; stand = record_at }
