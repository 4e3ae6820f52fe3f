use Rattle.count_spec.proofs.InUseLemmas.{live_more, live_dropped, live_tick, live_closed, live_opened}
use Rattle.count_spec.proofs.OtherLemmas.{live_other}
use Rattle.count_spec.proofs.in_use.live_snapshots_move_arrival_by_arrival.Goals as goal

pub returns : goal.returns
returns c = record { taken = live_more; dropped = live_dropped; tick = live_tick; closed = live_closed; opened = live_opened; other = live_other }
