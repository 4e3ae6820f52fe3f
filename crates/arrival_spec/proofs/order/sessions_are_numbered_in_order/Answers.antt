use Rattle.arrival_spec.proofs.OrderLemmas.{numbered, numbered_so_far}
use Rattle.arrival_spec.proofs.order.sessions_are_numbered_in_order.Goals as goal

pub returns : goal.returns
returns c = record { so_far = numbered_so_far; all = numbered }
