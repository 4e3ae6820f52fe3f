use Rattle.std.proofs.Common.{drop, map, ap, ◌∙◌, arith, ◌+◌}
use Rattle.std.proofs.lemmas.List.{drop_all}
use Rattle.call_spec.specs.Lines.{octets_line, lines_by}
use Rattle.run_lines.specs.Ended.{output_name}
use Rattle.run_lines.proofs.WalkLemmas.{said_more, said_failed, said_all, next_line}
use Rattle.run_lines.proofs.lengths.say_octets.Goals as goal

pub loop-i-preserved : goal.loop-i-preserved
loop-i-preserved g c =
    let i = c.loop-i.i in
    let confs = c.args.confs.now in
    let came = c.args.counts.now in
    said_more (lines_by octets_line (map output_name confs) came) (lines_by octets_line (map output_name (drop i confs)) (drop i came)) _ (lines_by octets_line (map output_name (drop (i + 1) confs)) (drop (i + 1) came))
    (g.S.Site.seen c.args.site.now) (g.S.Site.seen c.loop-i.site) (g.S.Site.seen c.say_octets_of.new.site)
    (next_line output_name octets_line confs came i c.index-confs-i.result _ c.loop-i-test.true (omega (arith, c.requires, c.loop-i-test.true)) c.index-confs-i.is) c.loop-i.invariant c.in-Ok.ensures

pub returns-in-Err : goal.returns-in-Err
returns-in-Err g c =
    let i = c.loop-i.i in
    let confs = c.args.confs.now in
    let came = c.args.counts.now in
    said_failed (lines_by octets_line (map output_name confs) came) (lines_by octets_line (map output_name (drop i confs)) (drop i came)) _ (lines_by octets_line (map output_name (drop (i + 1) confs)) (drop (i + 1) came))
    (g.S.Site.seen c.args.site.now) (g.S.Site.seen c.loop-i.site) (g.S.Site.seen c.say_octets_of.new.site) c.in-Err.fault
    (next_line output_name octets_line confs came i c.index-confs-i.result _ c.loop-i-test.true (omega (arith, c.requires, c.loop-i-test.true)) c.index-confs-i.is) c.loop-i.invariant c.in-Err.ensures
