use Rattle.std.proofs.Common.{drop, map}
use Rattle.call_spec.specs.Lines.{stage_line, lines_by}
use Rattle.run_lines.specs.Ended.{stage_name}
use Rattle.run_lines.proofs.WalkLemmas.{SaidSoFar}
use Rattle.run_lines.proofs.faults.say_stages.Given as goal

abbrev pub invariant-loop-i : goal.invariant-loop-i
invariant-loop-i g l = SaidSoFar (lines_by stage_line (map stage_name l.confs) l.wants) (lines_by stage_line (map stage_name (drop l.i l.confs)) (drop l.i l.wants)) (g.S.Site.seen l.fn.site) (g.S.Site.seen l.site)
