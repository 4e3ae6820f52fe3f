use Rattle.std.proofs.Common.{◌≡◌, ◌∙◌}
use Rattle.std.specs.BTreeSet.{contains_text}
use Rattle.element_table.specs.Keyed.{is_printed, rows_in}
use Rattle.element_table.proofs.NameLemmas.{named_keyed, prefix_no_colon}
use Rattle.element_table.proofs.elements.Elements.has_name.Goals as goal

pub returns : goal.returns
returns c =
    let found : contains_text c.self.inside.names c.args.printed.now ≡ is_printed c.args.printed.now (rows_in c.self.inside.rows.entries) = c.self.invariant.1 c.args.printed.now in
    rw (← c.self.view_is) (c.contains.ensures ∙ found
    ∙ rw c.requires.name (named_keyed c.args.element.now c.self.inside.rows.entries (prefix_no_colon c.args.element.now.prefix c.requires.form) c.self.invariant.0))
