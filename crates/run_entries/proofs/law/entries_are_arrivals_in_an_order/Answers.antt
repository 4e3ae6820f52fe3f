use Rattle.run_entries.proofs.OrderLemmas.{is_order, next_partial, order_items, run_lists}
use Rattle.run_entries.proofs.law.entries_are_arrivals_in_an_order.Goals as goal

pub returns-clause-order : goal.returns-clause-order
returns-clause-order g c left faults conf run front rest xs e is none = is_order conf run front rest (run_lists left faults conf run _ xs e) is none

pub returns-clause-next : goal.returns-clause-next
returns-clause-next g c left faults conf run front more x xs e = next_partial conf front x more run.inputs (run_lists left faults conf run _ xs e)

pub returns-clause-come : goal.returns-clause-come
returns-clause-come g c left faults conf run front rest xs e j = order_items conf front rest run.inputs (run_lists left faults conf run _ xs e) j
