use Rattle.std.proofs.Common.{◌∙◌, sym}
use Rattle.anonymise_stage.proofs.PreparedLemmas.{fixed_hide, fixed_inside}
use Rattle.anonymise_stage.proofs.prepared.PreparedAnonymiser.hide.Goals as goal

pub hide_places-requires-clause-inside : goal.hide_places-requires-clause-inside
hide_places-requires-clause-inside c =
    let some = c.requires.suits in
    let fixed = sym some.2.fixed ∙ c.if-self.true in
    fixed_inside some.0 c.deref.result.now c.args.def.now.fields c.args.rec.now fixed (c.deref.ensures.value ∙ some.2.places fixed) c.requires.is_record

pub returns-then-self : goal.returns-then-self
returns-then-self c = λ table h s.
    (let fixed = sym s.fixed ∙ c.if-self.true in
    c.hide_places.ensures table h ∙ fixed_hide table c.deref.result.now c.args.def.now.fields c.args.rec.now fixed (c.deref.ensures.value ∙ s.places fixed) c.requires.is_record)
