use Rattle.std.proofs.Common.{drop, map}
use Rattle.call_spec.specs.Lines.{input_line, lines_by}
use Rattle.run_lines.specs.Ended.{input_name}
use Rattle.run_lines.proofs.WalkLemmas.{SaidSoFar}
use Rattle.run_lines.proofs.faults.say_inputs.Given as goal

abbrev pub invariant-loop-i : goal.invariant-loop-i
invariant-loop-i g l = SaidSoFar (lines_by input_line (map input_name l.confs) l.ends) (lines_by input_line (map input_name (drop l.i l.confs)) (drop l.i l.ends)) (g.S.Site.seen l.fn.site) (g.S.Site.seen l.site)
