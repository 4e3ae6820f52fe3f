use Rattle.std.proofs.Common.{◌≡◌, drop, map, max}
use Rattle.std.specs.Prelude.{fold}
use Rattle.call_spec.specs.Status.{stage_code, worst}
use Rattle.run_lines.proofs.codes.worst_stage.Given as goal

abbrev pub invariant-loop-wants : goal.invariant-loop-wants
invariant-loop-wants l = fold max l.most (map stage_code (drop l.wants-index l.stages)) ≡ worst (map stage_code l.stages)
