use Rattle.template_spec.proofs.TakenLemmas.{changes_without, itself_unchanged, latest_without, taken_without, valid_without}
use Rattle.template_spec.proofs.taken.over_udp_a_withdrawal_changes_nothing.Goals as goal

pub returns : goal.returns
returns c = record { itself = itself_unchanged; stays_valid = valid_without; stays_latest = latest_without; others_taken = taken_without; others_change = changes_without }
