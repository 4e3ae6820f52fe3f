use Rattle.load_spec.proofs.DrawLemmas.{state_joined, draws_joined, draws_long}
use Rattle.load_spec.proofs.draws.draws_go_on.Goals as goal

pub returns : goal.returns
returns c = record { state = state_joined; octets = draws_joined; one = draws_long }
