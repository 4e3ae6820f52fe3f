use Rattle.count_spec.proofs.TimedLemmas.{by_time_counted, lifetime_counted, late_counted}
use Rattle.count_spec.proofs.from_events.export_times_decide_what_is_counted.Goals as goal

pub returns : goal.returns
returns c = record { by_time = by_time_counted; lifetime = lifetime_counted; late = late_counted }
