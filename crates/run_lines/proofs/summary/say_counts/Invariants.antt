use Rattle.std.proofs.Common.{drop, map}
use Rattle.std.specs.Prelude.{flat_map}
use Rattle.call_spec.specs.Summary.{count_line}
use Rattle.run_lines.specs.Rows.{row_of}
use Rattle.run_lines.proofs.WalkLemmas.{SaidSoFar}
use Rattle.run_lines.proofs.summary.say_counts.Given as goal

abbrev pub invariant-loop-row : goal.invariant-loop-row
invariant-loop-row g l = SaidSoFar (flat_map count_line (map row_of l.rows)) (flat_map count_line (map row_of (drop l.row-index l.rows))) (g.S.Site.seen l.fn.site) (g.S.Site.seen l.site)
