use Rattle.std.proofs.Common.{◌≡◌, ◌≤◌, ℕ, List, drop, length}
use Rattle.call_spec.specs.Pairs.{Each}
use Rattle.pipeline_message.specs.declared.run_counts.RunCounts.{RunCounts}
use Rattle.run_entries.specs.Totals.{sums}
use Rattle.run_input.specs.Inputs.{CountsAll}
use Rattle.run_inputs.proofs.totals.total_counts.Given as goal

abbrev pub invariant-loop-left : goal.invariant-loop-left
invariant-loop-left g l = (l.left ≤ length l.inputs) × ((cs : List RunCounts) × ((n : ℕ) → Each (λ _ x c. CountsAll x c) n (drop l.left l.inputs) cs) × (l.total ≡ sums cs))

abbrev pub decreases-loop-left : goal.decreases-loop-left
decreases-loop-left g l = l.left
