use Rattle.std.proofs.Common.{◌+◌, Some, None, ap, sym, ◌∙◌}
use Rattle.wire_spec.specs.declared.field.FieldSpec.{FieldSpec}
use Rattle.text_spec.specs.Fields.{pair_of}
use Rattle.json_output.specs.Chain.{first_from}
use Rattle.json_output.proofs.ChainLemmas.{last_is}
use Rattle.json_output.proofs.chains.Chains.is_last.Goals as goal

pub returns-in-Some : goal.returns-in-Some
returns-in-Some c =
    last_is (pair_of c.args.field) c.args.fields.now (c.args.at + 1) (Some _) (c.in-Some.ensures c.args.field ∙ ap (λ (f : FieldSpec). first_from (pair_of f) c.args.fields.now (c.args.at + 1)) (sym c.requires.is))

pub returns-in-None : goal.returns-in-None
returns-in-None c =
    last_is (pair_of c.args.field) c.args.fields.now (c.args.at + 1) None (c.in-None.ensures c.args.field ∙ ap (λ (f : FieldSpec). first_from (pair_of f) c.args.fields.now (c.args.at + 1)) (sym c.requires.is))
