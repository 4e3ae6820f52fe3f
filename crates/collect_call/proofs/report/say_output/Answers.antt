use Rattle.std.proofs.Common.{ℕ, List, Some, ap, subst, ◌∙◌}
use Rattle.call_spec.specs.declared.end.OutputFault.TheVariants as fault
use Rattle.call_spec.specs.Lines.{output_line}
use Rattle.call_spec.specs.Plan.{output_party}
use Rattle.run_lines.specs.Says.{Says}
use Rattle.collect_call.proofs.LineLemmas.{line_at}
use Rattle.collect_call.proofs.report.say_output.Goals as goal

pub returns-then-index-outputs : goal.returns-then-index-outputs
returns-then-index-outputs g c =
    subst (λ (l : List ℕ). Says (g.S.Site.seen c.args.site.now) (g.S.Site.seen c.say_output.new.site) l c.say_output.result)
    (ap (λ name. output_line name (Some fault.Failed)) (c.as_bytes-name.ensures.value ∙ c.as_str.ensures)
    ∙ line_at output_party (λ name. output_line name (Some fault.Failed)) c.args.outputs.now c.args.index _ c.if-index-outputs.true) c.say_output.ensures
