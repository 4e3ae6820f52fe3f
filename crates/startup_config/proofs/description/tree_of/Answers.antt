use Rattle.std.proofs.Common.{◌∙◌, sym, ap, refl}
use Rattle.toml.specs.Parse.{parse_document}
use Rattle.startup_config.proofs.TextLemmas.{tree_of_text, tree_of_other}
use Rattle.startup_config.proofs.description.tree_of.Goals as goal

pub returns-in-Ok-table_from_str-clause-ok : goal.returns-in-Ok-table_from_str-clause-ok
returns-in-Ok-table_from_str-clause-ok c =
    tree_of_text _ c.in-Ok.ensures.cases.1 ∙ ap parse_document (sym c.in-Ok.ensures.cases.0) ∙ c.in-Ok-table_from_str.ensures.ok

pub returns-in-Err-clause-err : goal.returns-in-Err-clause-err
returns-in-Err-clause-err c _ = (tree_of_other _ c.in-Err.ensures.cases.0, refl)
