use Rattle.std.proofs.Common.{◌≡◌, drop, map, max}
use Rattle.std.specs.Prelude.{fold}
use Rattle.call_spec.specs.Status.{end_code, worst}
use Rattle.run_lines.proofs.codes.worst_end.Given as goal

abbrev pub invariant-loop-end : goal.invariant-loop-end
invariant-loop-end l = fold max l.most (map end_code (drop l.end-index l.ends)) ≡ worst (map end_code l.ends)
