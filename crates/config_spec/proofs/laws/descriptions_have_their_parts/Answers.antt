use Rattle.config_spec.proofs.PartLemmas.{have_parts}
use Rattle.config_spec.proofs.laws.descriptions_have_their_parts.Goals as goal

pub returns : goal.returns
returns c = have_parts
