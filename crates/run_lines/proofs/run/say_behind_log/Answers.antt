use Rattle.std.proofs.Common.{map, ◌++◌}
use Rattle.call_spec.specs.Lines.{stage_line, output_line, lines_by}
use Rattle.run_lines.specs.Ended.{stage_name, output_name}
use Rattle.run_lines.proofs.SayLemmas.{says_then, says_stop}
use Rattle.run_lines.proofs.run.say_behind_log.Goals as goal

pub returns-in-Ok : goal.returns-in-Ok
returns-in-Ok g c =
    let first = rw c.as_slice.ensures at (rw c.as_slice-2.ensures.value at c.in-Ok.ensures) in
    let second = rw c.as_slice-in-Ok.ensures at (rw c.as_slice-in-Ok-2.ensures.value at c.say_outputs.ensures) in
    says_then (g.S.Site.seen c.args.site.now) (g.S.Site.seen c.say_stages.new.site) (g.S.Site.seen c.say_outputs.new.site)
    (lines_by stage_line (map stage_name c.args.conf.now.stages) c.args.ended.now.stages.items)
    (lines_by output_line (map output_name c.args.conf.now.outputs) c.args.ended.now.outputs.items) c.say_outputs.result first second

pub returns-in-Err : goal.returns-in-Err
returns-in-Err g c =
    let first = rw c.as_slice.ensures at (rw c.as_slice-2.ensures.value at c.in-Err.ensures) in
    says_stop (g.S.Site.seen c.args.site.now) (g.S.Site.seen c.say_stages.new.site)
    (lines_by stage_line (map stage_name c.args.conf.now.stages) c.args.ended.now.stages.items)
    (lines_by output_line (map output_name c.args.conf.now.outputs) c.args.ended.now.outputs.items) c.in-Err.fault first
