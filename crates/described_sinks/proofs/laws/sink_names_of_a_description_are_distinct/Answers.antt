use Rattle.described_sinks.proofs.DistinctLemmas.{distinct_names}
use Rattle.described_sinks.proofs.laws.sink_names_of_a_description_are_distinct.Goals as goal

pub returns : goal.returns
returns c = distinct_names
