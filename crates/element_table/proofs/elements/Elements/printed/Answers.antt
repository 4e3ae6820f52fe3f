use Rattle.std.proofs.Common.{◌∙◌}
use Rattle.element_table.proofs.NameLemmas.{row_name}
use Rattle.element_table.proofs.elements.Elements.printed.Goals as goal

pub returns-in-Some-clause-name : goal.returns-in-Some-clause-name
returns-in-Some-clause-name c = c.as_str.ensures ∙ row_name c.args.self.now c.args.pen c.args.id c.in-Some.row.now.printed c.in-Some.ensures.printed
