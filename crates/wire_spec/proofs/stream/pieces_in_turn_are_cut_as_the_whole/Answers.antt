use Rattle.wire_spec.proofs.StreamLemmas.{turns_cut, whole_turns, some_turns, one_turns}
use Rattle.wire_spec.proofs.stream.pieces_in_turn_are_cut_as_the_whole.Goals as goal

pub returns : goal.returns
returns c = record { behind = turns_cut; whole = whole_turns; some = some_turns; one = one_turns }
