use Rattle.std.proofs.Common.{map}
use Rattle.call_spec.specs.Lines.{octets_line, lines_by}
use Rattle.run_lines.specs.Ended.{output_name, run_text}
use Rattle.run_lines.proofs.SayLemmas.{says_then, says_stop}
use Rattle.run_lines.proofs.lengths.say_load.Goals as goal

pub returns-in-Ok : goal.returns-in-Ok
returns-in-Ok g c =
    says_then (g.S.Site.seen c.args.site.now) (g.S.Site.seen c.say_run.new.site) (g.S.Site.seen c.say_octets.new.site) (run_text c.args.conf.now c.args.ended.now) (lines_by octets_line (map output_name c.args.conf.now.outputs) c.args.counts.now) c.say_octets.result
    c.in-Ok.ensures (rw c.as_slice.ensures at c.say_octets.ensures)

pub returns-in-Err : goal.returns-in-Err
returns-in-Err g c =
    says_stop (g.S.Site.seen c.args.site.now) (g.S.Site.seen c.say_run.new.site) (run_text c.args.conf.now c.args.ended.now) (lines_by octets_line (map output_name c.args.conf.now.outputs) c.args.counts.now) c.in-Err.fault c.in-Err.ensures
