use Rattle.std.proofs.Common.{◌≡◌, ℕ, ◌<◌, true, length}
use Rattle.std.specs.Prelude.{◌↔◌}
use Rattle.template_def.proofs.WalkLemmas.{IsWalked}
use Rattle.template_def.proofs.checks.count_fields.Given as goal

abbrev pub invariant-loop-field : goal.invariant-loop-field
invariant-loop-field l = (least : ℕ) × IsWalked l.fn.specs l.count least l.rest × ((l.some ≡ true) ↔ (0 < least))

abbrev pub decreases-loop-field : goal.decreases-loop-field
decreases-loop-field l = length l.rest
