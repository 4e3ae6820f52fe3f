use Rattle.std.proofs.Common.{◌∙◌}
use Rattle.std.proofs.lemmas.Result.{err_from_is_err_and}
use Rattle.template_def.proofs.PutLemmas.{front_put}
use Rattle.template_def.proofs.fields.put_fields.Goals as goal

pub returns-in_err-put_specifier-clause-err : goal.returns-in_err-put_specifier-clause-err
returns-in_err-put_specifier-clause-err c =
    let e = front_put c.args.fields.now c.loop-field.field-index c.args.out.now c.put_specifier.new.out (c.in_err-put_specifier.ensures.err ∙ c.loop-field.invariant) in
    let p = err_from_is_err_and c.from_residual.result c.from_residual.ensures.1 in
    rw p.1 e
