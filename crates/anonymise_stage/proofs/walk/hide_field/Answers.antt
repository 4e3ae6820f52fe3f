use Rattle.std.proofs.Common.{sym, ◌∙◌}
use Rattle.anonymise_stage.proofs.StepLemmas.{not_listed}
use Rattle.anonymise_stage.proofs.walk.hide_field.Goals as goal

pub returns-else-is_listed : goal.returns-else-is_listed
returns-else-is_listed c = not_listed c.args.table.now c.args.field c.args.at c.args.rec.now c.value_place-place.result c.value_place-place.ensures (sym c.is_listed.ensures ∙ c.if-is_listed.false)
