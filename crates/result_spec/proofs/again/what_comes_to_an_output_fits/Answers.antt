use Rattle.result_spec.proofs.ThroughLemmas.{through_fit, within_fit}
use Rattle.result_spec.proofs.again.what_comes_to_an_output_fits.Goals as goal

pub returns : goal.returns
returns c = record { through = through_fit; limited = within_fit }
