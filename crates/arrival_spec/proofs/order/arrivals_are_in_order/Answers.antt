use Rattle.std.proofs.Common.{ap, sym, ◌∙◌}
use Rattle.arrival_spec.specs.Order.{are_in_order}
use Rattle.arrival_spec.proofs.LeadLemmas.{comes}
use Rattle.arrival_spec.proofs.OrderLemmas.{in_order, none_left_open}
use Rattle.arrival_spec.proofs.order.arrivals_are_in_order.Goals as goal

pub returns : goal.returns
returns c = record { all = in_order; each = λ settings input given before after a e. comes before after a (ap are_in_order (sym e) ∙ in_order settings input given); closed = none_left_open }
