use Rattle.wire_spec.proofs.BeginsLemmas.{template_first}
use Rattle.ipfix_reader.proofs.template_rules.TemplatesInSetItems.first.Goals as goal

pub returns-clause-first : goal.returns-clause-first
returns-clause-first c = template_first c.args.self.now.kind c.args.octets.now c.requires.some c.template_record.result c.template_record.ensures
