use Rattle.std.proofs.Common.{sym, subst}
use Rattle.std.specs.List.{AllByRecursion}
use Rattle.config_spec.specs.Form.{IsStage}
use Rattle.config_spec.proofs.ConfLemmas.{keep_form}
use Rattle.collect_call.proofs.prepare.make_ready.Goals as goal

pub stages_of-requires : goal.stages_of-requires
stages_of-requires c = subst (AllByRecursion IsStage) (sym c.as_slice.ensures) (keep_form c.requires.described.0 c.args.conf.now c.requires.described.1).stages
