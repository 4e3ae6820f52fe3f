use Rattle.arrival_spec.proofs.EachLemmas.{all_octets}
use Rattle.arrival_spec.proofs.run.what_arrives_of_octets_is_of_octets.Goals as goal

pub returns : goal.returns
returns c = all_octets
