use Rattle.call_spec.specs.Summary.{summary_text}
use Rattle.run_lines.specs.Ended.{fault_text}
use Rattle.run_lines.specs.Rows.{meant_counts}
use Rattle.run_lines.proofs.SayLemmas.{says_then, says_stop}
use Rattle.run_lines.proofs.run.say_run.Goals as goal

pub returns-in-Ok : goal.returns-in-Ok
returns-in-Ok g c =
    says_then (g.S.Site.seen c.args.site.now) (g.S.Site.seen c.say_faults.new.site) (g.S.Site.seen c.say_summary.new.site) (fault_text c.args.conf.now c.args.ended.now) (summary_text (meant_counts c.args.ended.now.counts)) c.say_summary.result
    c.in-Ok.ensures c.say_summary.ensures

pub returns-in-Err : goal.returns-in-Err
returns-in-Err g c =
    says_stop (g.S.Site.seen c.args.site.now) (g.S.Site.seen c.say_faults.new.site) (fault_text c.args.conf.now c.args.ended.now) (summary_text (meant_counts c.args.ended.now.counts)) c.in-Err.fault c.in-Err.ensures
