use Rattle.std.proofs.Common.{◌≡◌, ◌≤◌, length, take}
use Rattle.text_spec.specs.Value.{before_end_zeros}
use Rattle.value_text.proofs.string.before_end_zeros.Given as goal

abbrev pub invariant-loop-end : goal.invariant-loop-end
invariant-loop-end l = record { within : l.end ≤ length l.value; same : before_end_zeros l.value ≡ before_end_zeros (take l.end l.value) }

abbrev pub decreases-loop-end : goal.decreases-loop-end
decreases-loop-end l = l.end
