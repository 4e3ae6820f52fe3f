use Rattle.arrival_spec.proofs.LeadLemmas.{comes, front_in_order}
use Rattle.arrival_spec.proofs.order.an_order_holds_from_front_to_front.Goals as goal

pub returns : goal.returns
returns c = record { each = comes; front = front_in_order }
