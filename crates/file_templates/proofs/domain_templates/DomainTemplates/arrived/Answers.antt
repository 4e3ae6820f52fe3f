use Rattle.std.proofs.Common.{◌∙◌}
use Rattle.file_templates.proofs.TemplateRecordsLemmas.{file_kept, some_kept}
use Rattle.file_templates.proofs.domain_templates.DomainTemplates.arrived.Goals as goal

pub invariant_of-self : goal.invariant_of-self
invariant_of-self c = record { of_file = c.arrived.ensures.transport ∙ c.args.self.now.of_file; stands = some_kept c.args.self.now.manager c.arrived.new.self c.arrived.ensures.stands c.args.self.now.stands }

pub returns : goal.returns
returns c = file_kept c.args.self.now.manager c.arrived.new.self c.args.self.now.of_file (c.arrived.ensures.transport ∙ c.args.self.now.of_file) c.arrived.ensures.stands c.args.self.now.stands
