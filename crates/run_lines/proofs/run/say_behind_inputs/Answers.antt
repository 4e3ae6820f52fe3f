use Rattle.std.proofs.Common.{map, ◌++◌}
use Rattle.call_spec.specs.Lines.{log_line, stage_line, output_line, lines_by}
use Rattle.run_lines.specs.Ended.{stage_name, output_name}
use Rattle.run_lines.proofs.SayLemmas.{says_then, says_stop}
use Rattle.run_lines.proofs.run.say_behind_inputs.Goals as goal

pub returns-in-Ok : goal.returns-in-Ok
returns-in-Ok g c =
    says_then (g.S.Site.seen c.args.site.now) (g.S.Site.seen c.say_log.new.site) (g.S.Site.seen c.say_behind_log.new.site) (log_line c.args.conf.now.order_log c.args.ended.now.log)
    (lines_by stage_line (map stage_name c.args.conf.now.stages) c.args.ended.now.stages.items ++ lines_by output_line (map output_name c.args.conf.now.outputs) c.args.ended.now.outputs.items) c.say_behind_log.result c.in-Ok.ensures c.say_behind_log.ensures

pub returns-in-Err : goal.returns-in-Err
returns-in-Err g c =
    says_stop (g.S.Site.seen c.args.site.now) (g.S.Site.seen c.say_log.new.site) (log_line c.args.conf.now.order_log c.args.ended.now.log)
    (lines_by stage_line (map stage_name c.args.conf.now.stages) c.args.ended.now.stages.items ++ lines_by output_line (map output_name c.args.conf.now.outputs) c.args.ended.now.outputs.items) c.in-Err.fault c.in-Err.ensures
