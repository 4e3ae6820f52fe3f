use Rattle.count_spec.proofs.BelowLemmas.{live_below, used_below, opens_grow, used_fits}
use Rattle.count_spec.proofs.in_use.no_more_are_in_use_than_were_opened.Goals as goal

pub returns : goal.returns
returns c = record { live = live_below; before = used_below; some = opens_grow; enough = used_fits }
