use Rattle.call_spec.proofs.LogLemmas.{nothing_left}
use Rattle.call_spec.proofs.example.an_input_ends_with_nothing_left.Goals as goal

pub returns : goal.returns
returns c = nothing_left
