use Rattle.std.proofs.Common.{drop, map}
use Rattle.call_spec.specs.Lines.{octets_line, lines_by}
use Rattle.run_lines.specs.Ended.{output_name}
use Rattle.run_lines.proofs.WalkLemmas.{SaidSoFar}
use Rattle.run_lines.proofs.lengths.say_octets.Given as goal

abbrev pub invariant-loop-i : goal.invariant-loop-i
invariant-loop-i g l = SaidSoFar (lines_by octets_line (map output_name l.confs) l.counts) (lines_by octets_line (map output_name (drop l.i l.confs)) (drop l.i l.counts)) (g.S.Site.seen l.fn.site) (g.S.Site.seen l.site)
