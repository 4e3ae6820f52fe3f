use Rattle.template_def.specs.Same.{definition_Decides}
use Rattle.template_def.proofs.equality.equal_definitions_are_one.Goals as goal

pub returns : goal.returns
returns c = definition_Decides
