use Rattle.std.proofs.Common.{◌++◌, ap, ◌∙◌}
use Rattle.prepared_lines.proofs.LineLemmas.{values_many}
use Rattle.json_output.proofs.prepared.Prepared.put_record.Goals as goal

pub returns-clause-ok : goal.returns-clause-ok
returns-clause-ok c =
    let p = c.in_ok-put_line.ensures.ok in
    λ options table suits. (p.0, p.1, p.2 ∙ ap (λ l. c.args.lines.now ++ l) (suits.text p.0 (values_many c.args.def.now.fields c.args.rec.now p.0 p.1)))
