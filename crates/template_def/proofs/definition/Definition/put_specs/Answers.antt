use Rattle.std.proofs.Common.{subst}
use Rattle.template_def.specs.Kept.{IsKept}
use Rattle.template_def.proofs.ReadLemmas.{read_back}
use Rattle.template_def.proofs.definition.Definition.put_specs.Goals as goal

pub returns-in_err-put_fields-clause-back : goal.returns-in_err-put_fields-clause-back
returns-in_err-put_fields-clause-back c = read_back c.args.self.now (subst IsKept c.self.view_is c.self.invariant.kept)

pub returns-clause-back : goal.returns-clause-back
returns-clause-back c = read_back c.args.self.now (subst IsKept c.self.view_is c.self.invariant.kept)
