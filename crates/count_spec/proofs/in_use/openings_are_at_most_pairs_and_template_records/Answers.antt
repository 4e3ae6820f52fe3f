use Rattle.count_spec.proofs.PairLemmas.{opens_by_pairs, opens_most}
use Rattle.count_spec.proofs.in_use.openings_are_at_most_pairs_and_template_records.Goals as goal

pub returns : goal.returns
returns c = record { summed = opens_by_pairs; most = opens_most }
