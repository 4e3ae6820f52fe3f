use Rattle.wire_spec.proofs.StreamLemmas.{cut_on}
use Rattle.wire_spec.proofs.stream.what_was_cut_stays_cut.Goals as goal

pub returns : goal.returns
returns c = cut_on
