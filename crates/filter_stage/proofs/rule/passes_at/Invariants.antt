use Rattle.std.proofs.Common.{◌≡◌, ◌≤◌, ◌+◌, length, drop}
use Rattle.std.specs.List.{AllByRecursion}
use Rattle.filter_stage.specs.Prepared.{passes_at}
use Rattle.filter_stage.proofs.rule.passes_at.Given as goal

-- the places that are left decide
abbrev pub invariant-loop-place : goal.invariant-loop-place
invariant-loop-place l = record {
  left : passes_at l.test (drop l.place-index l.places) l.rec ≡ passes_at l.test l.places l.rec;
  inside : AllByRecursion (λ p. p.at + p.len ≤ length l.rec) (drop l.place-index l.places);
}
