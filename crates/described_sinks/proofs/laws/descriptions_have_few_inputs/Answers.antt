use Rattle.config_spec.proofs.ConfLemmas.{keep_form}
use Rattle.described_sinks.proofs.laws.descriptions_have_few_inputs.Goals as goal

pub returns : goal.returns
returns c = λ octets conf e. (keep_form octets conf e).few_inputs
