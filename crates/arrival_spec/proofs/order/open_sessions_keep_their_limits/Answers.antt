use Rattle.arrival_spec.proofs.OrderLemmas.{few_open, few_opened, open_so_far}
use Rattle.arrival_spec.proofs.order.open_sessions_keep_their_limits.Goals as goal

pub returns : goal.returns
returns c = record { «open» = open_so_far; few = few_open; numbers = few_opened }
