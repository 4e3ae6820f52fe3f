use Rattle.run_spec.proofs.ApartLemmas.{sessions_apart}
use Rattle.run_spec.proofs.apart.sessions_are_decoded_apart.Goals as goal

pub returns : goal.returns
returns c = sessions_apart
