use Rattle.std.proofs.Common.{◌++◌, ap, ◌∙◌}
use Rattle.file_output.proofs.MessageLemmas.{one_template_more}
use Rattle.file_output.specs.Sets.{template_in}
use Rattle.file_output.proofs.message.put_templates.Goals as goal

pub loop-used-preserved : goal.loop-used-preserved
loop-used-preserved c =
    one_template_more c.args.head c.args.known.now c.args.new.now c.loop-used.used-index c.used-item.result c.args.out.now c.loop-used.out c.put_known.new.out c.loop-used-test.true c.loop-used.invariant
    (c.in_ok-put_known.ensures.ok ∙ ap (λ d. c.loop-used.out ++ template_in c.args.head c.args.known.now d) c.used-item.is)
