use Rattle.count_spec.proofs.EventLemmas.{withdrawn_counted, not_over_udp_counted, broken_counted, defined_anew_counted}
use Rattle.count_spec.proofs.from_events.streams_and_datagrams_are_counted.Goals as goal

pub returns : goal.returns
returns c = record { withdrawn = withdrawn_counted; not_over_udp = not_over_udp_counted; broken = broken_counted; defined_anew = defined_anew_counted }
