use Rattle.std.proofs.Common.{◌*◌}
use Rattle.std.specs.Prelude.{◌/◌}
use Rattle.load_spec.proofs.LastLemmas.{last_defined}
use Rattle.load_spec.proofs.message.fields_are_those_that_were_defined_last.Goals as goal

pub returns : goal.returns
returns c = λ q. (250 * (q / 250), last_defined q)
