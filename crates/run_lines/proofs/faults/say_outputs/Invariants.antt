use Rattle.std.proofs.Common.{drop, map}
use Rattle.call_spec.specs.Lines.{output_line, lines_by}
use Rattle.run_lines.specs.Ended.{output_name}
use Rattle.run_lines.proofs.WalkLemmas.{SaidSoFar}
use Rattle.run_lines.proofs.faults.say_outputs.Given as goal

abbrev pub invariant-loop-i : goal.invariant-loop-i
invariant-loop-i g l = SaidSoFar (lines_by output_line (map output_name l.confs) l.faults) (lines_by output_line (map output_name (drop l.i l.confs)) (drop l.i l.faults)) (g.S.Site.seen l.fn.site) (g.S.Site.seen l.site)
