use Rattle.count_spec.proofs.InUseLemmas.{used_at, used_cut, used_more}
use Rattle.count_spec.proofs.in_use.snapshots_in_use_move_with_the_message.Goals as goal

pub returns : goal.returns
returns c = record { at = used_at; cut = used_cut; used = used_more }
