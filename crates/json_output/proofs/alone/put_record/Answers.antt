use Rattle.std.proofs.Common.{◌++◌, ap, ◌∙◌}
use Rattle.json_output.specs.Printed.{printed_text}
use Rattle.json_output.proofs.alone.put_record.Goals as goal

pub returns-clause-ok : goal.returns-clause-ok
returns-clause-ok c =
    let put = c.in_ok-put_record.ensures.ok c.args.options c.args.elements.now c.in_ok-prepared.ensures in
    let text = printed_text c.args.options c.args.elements.now c.args.def.now put.0 in
    (put.0, put.1, c.in_ok-extend.ensures.ok ∙ ap (λ l. c.args.out.now ++ l) (c.as_slice.ensures ∙ (put.2 ∙ ap (λ l. l ++ text) c.new-lines.ensures)))
