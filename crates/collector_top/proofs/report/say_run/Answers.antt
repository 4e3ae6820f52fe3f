use Rattle.call_spec.specs.Plan.{in_name, out_name}
use Rattle.call_spec.specs.Lines.{input_line, sink_line}
use Rattle.run_lines.proofs.SayLemmas.{says_then, says_stop}
use Rattle.collector_top.proofs.report.say_run.Goals as goal

pub returns-in-Ok : goal.returns-in-Ok
returns-in-Ok g c =
    says_then (g.S.Site.seen c.args.site.now) (g.S.Site.seen c.say_input.new.site) (g.S.Site.seen c.say_output.new.site) (input_line in_name c.args.ended.input) (sink_line out_name c.args.ended.output) c.say_output.result c.in-Ok.ensures c.say_output.ensures

pub returns-in-Err : goal.returns-in-Err
returns-in-Err g c = says_stop (g.S.Site.seen c.args.site.now) (g.S.Site.seen c.say_input.new.site) (input_line in_name c.args.ended.input) (sink_line out_name c.args.ended.output) c.in-Err.fault c.in-Err.ensures
