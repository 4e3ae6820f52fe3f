use Rattle.std.proofs.Common.{drop, map, ◌+◌, arith}
use Rattle.std.specs.Prelude.{flat_map}
use Rattle.call_spec.specs.Summary.{count_line}
use Rattle.run_lines.specs.Rows.{row_of}
use Rattle.run_lines.proofs.WalkLemmas.{said_none, said_more, said_failed, said_all, next_row, no_rows}
use Rattle.run_lines.proofs.summary.say_counts.Goals as goal

pub loop-row-init : goal.loop-row-init
loop-row-init g c = said_none (flat_map count_line (map row_of c.args.rows.now)) (g.S.Site.seen c.args.site.now)

pub loop-row-preserved : goal.loop-row-preserved
loop-row-preserved g c =
    let i = c.loop-row.row-index in
    let rows = c.args.rows.now in
    said_more (flat_map count_line (map row_of rows)) (flat_map count_line (map row_of (drop i rows))) _ (flat_map count_line (map row_of (drop (i + 1) rows)))
    (g.S.Site.seen c.args.site.now) (g.S.Site.seen c.loop-row.site) (g.S.Site.seen c.say_count.new.site)
    (next_row rows i _ c.loop-row-test.true) c.loop-row.invariant c.in-Ok.ensures

pub returns-in-Err : goal.returns-in-Err
returns-in-Err g c =
    let i = c.loop-row.row-index in
    let rows = c.args.rows.now in
    said_failed (flat_map count_line (map row_of rows)) (flat_map count_line (map row_of (drop i rows))) _ (flat_map count_line (map row_of (drop (i + 1) rows)))
    (g.S.Site.seen c.args.site.now) (g.S.Site.seen c.loop-row.site) (g.S.Site.seen c.say_count.new.site) c.in-Err.fault
    (next_row rows i _ c.loop-row-test.true) c.loop-row.invariant c.in-Err.ensures

pub returns : goal.returns
returns g c =
    said_all (flat_map count_line (map row_of c.args.rows.now)) (flat_map count_line (map row_of (drop c.loop-row.row-index c.args.rows.now))) (g.S.Site.seen c.args.site.now) (g.S.Site.seen c.loop-row.site)
    (no_rows c.args.rows.now c.loop-row.row-index c.loop-row-test.false) c.loop-row.invariant
