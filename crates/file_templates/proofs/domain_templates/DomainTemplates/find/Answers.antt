use Rattle.std.proofs.Common.{Some, None}
use Rattle.file_templates.proofs.TemplateRecordsLemmas.{file_found, file_well}
use Rattle.file_templates.proofs.domain_templates.DomainTemplates.find.Goals as goal

pub returns-in-Template-clause-found : goal.returns-in-Template-clause-found
returns-in-Template-clause-found c = file_found c.args.self.now.manager c.args.export c.args.id (Some c.in-Template.definition.now.value) c.args.self.now.of_file c.args.self.now.stands c.in-Template.ensures

pub returns-in-Template-clause-well_formed : goal.returns-in-Template-clause-well_formed
returns-in-Template-clause-well_formed c = file_well c.args.self.now.manager c.args.export c.args.id c.in-Template.definition.now.value c.args.self.now.stands c.in-Template.ensures

pub returns-in-NoTemplate-clause-found : goal.returns-in-NoTemplate-clause-found
returns-in-NoTemplate-clause-found c = file_found c.args.self.now.manager c.args.export c.args.id None c.args.self.now.of_file c.args.self.now.stands c.in-NoTemplate.ensures
