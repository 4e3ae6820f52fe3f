use Rattle.std.proofs.lemmas.Result.{IfOk-weaker}
use Rattle.config_spec.proofs.ConfLemmas.{keep_form}
use Rattle.config_spec.proofs.PartLemmas.{have_parts}
use Rattle.startup_config.proofs.description.read.Goals as goal

pub returns-clause-form : goal.returns-clause-form
returns-clause-form c = IfOk-weaker c.described.result _ _ (λ conf e. keep_form c.args.octets.now conf e) c.described.ensures.ok

pub returns-clause-parts : goal.returns-clause-parts
returns-clause-parts c = IfOk-weaker c.described.result _ _ (λ conf e. have_parts c.args.octets.now conf e) c.described.ensures.ok
