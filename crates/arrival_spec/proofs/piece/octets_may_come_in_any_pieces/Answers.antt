use Rattle.arrival_spec.proofs.PieceLemmas.{pieces_arrive, pieces_stand}
use Rattle.arrival_spec.proofs.piece.octets_may_come_in_any_pieces.Goals as goal

pub returns : goal.returns
returns c = record { arrivals = pieces_arrive; stands = pieces_stand }
