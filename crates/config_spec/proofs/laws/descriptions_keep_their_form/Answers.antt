use Rattle.config_spec.proofs.ConfLemmas.{keep_form}
use Rattle.config_spec.proofs.laws.descriptions_keep_their_form.Goals as goal

pub returns : goal.returns
returns c = keep_form
