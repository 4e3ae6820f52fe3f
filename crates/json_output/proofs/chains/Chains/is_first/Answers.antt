use Rattle.std.proofs.Common.{Some, None, ◌∙◌}
use Rattle.text_spec.specs.Fields.{pair_of}
use Rattle.json_output.proofs.ChainLemmas.{first_tells}
use Rattle.json_output.proofs.chains.Chains.is_first.Goals as goal

pub returns-in-Some : goal.returns-in-Some
returns-in-Some c = first_tells c.args.fields.now c.args.at c.args.field (Some c.in-Some.first.now) c.requires.inside c.requires.is (c.in-Some.ensures.value ∙ c.requires.chains.first (pair_of c.args.field))

pub returns-in-None : goal.returns-in-None
returns-in-None c = first_tells c.args.fields.now c.args.at c.args.field None c.requires.inside c.requires.is (c.in-None.ensures.value ∙ c.requires.chains.first (pair_of c.args.field))
