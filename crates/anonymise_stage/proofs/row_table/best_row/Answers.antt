use Rattle.std.proofs.Common.{◌∙◌, ap, length}
use Rattle.text_spec.specs.Number.{number_of}
use Rattle.anonymise_stage.specs.Segments.{best_at}
use Rattle.anonymise_stage.proofs.TableLemmas.{fits_copied}
use Rattle.anonymise_stage.proofs.row_table.best_row.Goals as goal

pub returns-clause-is : goal.returns-clause-is
returns-clause-is c =
    let octets = length c.args.value.now in
    c.row_at.ensures ∙ (c.find.ensures octets c.args.rows.now c.requires.segments ∙ ap (λ n. best_at octets n c.args.rows.now) c.number_of.ensures)

pub returns-clause-fits : goal.returns-clause-fits
returns-clause-fits c =
    let octets = length c.args.value.now in
    fits_copied octets (number_of c.args.value.now) c.args.rows.now c.row_at.result
    (c.row_at.ensures ∙ (c.find.ensures octets c.args.rows.now c.requires.segments ∙ ap (λ n. best_at octets n c.args.rows.now) c.number_of.ensures))
