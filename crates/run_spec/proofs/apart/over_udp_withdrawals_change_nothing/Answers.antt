use Rattle.run_spec.proofs.ApartLemmas.{own_without_any, without_any}
use Rattle.run_spec.proofs.apart.over_udp_withdrawals_change_nothing.Goals as goal

pub returns : goal.returns
returns c = record { own = own_without_any; behind = without_any }
