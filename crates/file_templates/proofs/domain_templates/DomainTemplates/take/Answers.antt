use Rattle.std.proofs.Common.{◌∙◌, ap}
use Rattle.template_manager.specs.Kinds.{touch_of}
use Rattle.template_spec.specs.Valid.{touched}
use Rattle.file_templates.specs.DomainTemplates.{definition_of}
use Rattle.file_templates.proofs.TemplateRecordsLemmas.{file_more, some_taken}
use Rattle.file_templates.proofs.domain_templates.DomainTemplates.take.Goals as goal

pub invariant_of-self : goal.invariant_of-self
invariant_of-self c = record {
  of_file = c.take.ensures.kept.transport ∙ c.args.self.now.of_file;
  stands = some_taken c.take.result c.args.self.now.manager c.take.new.self c.args.export (touch_of c.in_ok-touch.touch) c.in_ok-touch.ensures.well_formed c.take.ensures.ok c.take.ensures.err c.args.self.now.stands;
}

pub returns : goal.returns
returns c = λ id.
    file_more c.args.self.now.manager c.take.new.self c.args.export (touch_of c.in_ok-touch.touch) c.args.self.now.of_file (c.take.ensures.kept.transport ∙ c.args.self.now.of_file) c.in_ok-take.ensures.ok c.args.self.now.stands id
    ∙ ap (touched id (definition_of c.args.self.now id)) c.in_ok-touch.ensures.says
