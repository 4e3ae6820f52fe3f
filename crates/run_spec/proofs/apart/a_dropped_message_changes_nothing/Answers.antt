use Rattle.run_spec.proofs.ApartLemmas.{nothing_dropped, without_dropped}
use Rattle.run_spec.proofs.apart.a_dropped_message_changes_nothing.Goals as goal

pub returns : goal.returns
returns c = record { own = nothing_dropped; behind = without_dropped }
