use Rattle.std.proofs.Common.{◌+◌, ◌∙◌, sym, subst, List, ℕ}
use Rattle.anonymise_stage.specs.Step.{IsFieldHidden}
use Rattle.anonymise_stage.proofs.StepLemmas.{not_listed, listed, value_hidden}
use Rattle.anonymise_stage.proofs.prepared.hide_field.Goals as goal

pub returns-then-listed : goal.returns-then-listed
returns-then-listed c = λ table h is.
    (let place = c.value_place-place.result in
    let old = c.args.rec.now in
    let value = Rattle.std.proofs.Common.take place.len (Rattle.std.proofs.Common.drop place.at old) in
    subst (λ (new : List ℕ). IsFieldHidden table c.args.field c.args.at old new (place.at + place.len)) (sym (c.hide_at.ensures table h))
    (value_hidden table c.args.field c.args.at old place _ c.value_place-place.ensures (listed table c.args.field value (sym is ∙ c.if-listed.true))))

pub returns-else-listed : goal.returns-else-listed
returns-else-listed c = λ table h is. not_listed table c.args.field c.args.at c.args.rec.now c.value_place-place.result c.value_place-place.ensures (sym is ∙ c.if-listed.false)
