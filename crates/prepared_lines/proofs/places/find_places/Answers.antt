use Rattle.std.proofs.Common.{◌+◌, List, sym, subst}
use Rattle.record_iter.specs.declared.place.ValuePlace.{ValuePlace}
use Rattle.prepared_lines.proofs.PlaceLemmas.{HavePlaces, place_whole, places_more, places_all}
use Rattle.prepared_lines.proofs.places.find_places.Goals as goal

pub value_place-place-requires-clause-whole : goal.value_place-place-requires-clause-whole
value_place-place-requires-clause-whole c =
    place_whole c.args.fields.now c.args.rec.now c.loop-field.field-index c.loop-field.at c.loop-field.places.items (record { pen = 0; id = 0; len = 0 }) c.loop-field.invariant c.loop-field-test.true

pub loop-field-preserved : goal.loop-field-preserved
loop-field-preserved c =
    let place : ValuePlace = c.value_place-place.result in
    subst (λ (l : List ValuePlace). HavePlaces c.args.fields.now c.args.rec.now (c.loop-field.field-index + 1) (place.at + place.len) l) (sym c.in_ok-push.ensures.items)
    (places_more c.args.fields.now c.args.rec.now c.loop-field.field-index c.loop-field.at c.loop-field.places.items (record { pen = 0; id = 0; len = 0 }) place
    c.loop-field.invariant c.loop-field-test.true c.value_place-place.ensures)

pub returns : goal.returns
returns c = places_all c.args.fields.now c.args.rec.now c.loop-field.field-index c.loop-field.at c.loop-field.places.items c.loop-field.invariant c.loop-field-test.false
