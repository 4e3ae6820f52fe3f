use Rattle.std.proofs.Common.{ℕ, List, ap, subst, ◌∙◌}
use Rattle.call_spec.specs.declared.end.InputEnd.TheVariants as end
use Rattle.call_spec.specs.Lines.{input_line}
use Rattle.call_spec.specs.Plan.{input_party}
use Rattle.run_lines.specs.Says.{Says}
use Rattle.collect_call.proofs.LineLemmas.{line_at}
use Rattle.collect_call.proofs.report.say_source.Goals as goal

pub returns-then-index-inputs : goal.returns-then-index-inputs
returns-then-index-inputs g c =
    subst (λ (l : List ℕ). Says (g.S.Site.seen c.args.site.now) (g.S.Site.seen c.say_input.new.site) l c.say_input.result)
    (ap (λ name. input_line name end.Failed) (c.as_bytes-name.ensures.value ∙ c.as_str.ensures)
    ∙ line_at input_party (λ name. input_line name end.Failed) c.args.inputs.now c.args.index _ c.if-index-inputs.true) c.say_input.ensures
