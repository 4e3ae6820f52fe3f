use Rattle.std.proofs.Common.{◌≡◌, true, List, length, ap, ◌∙◌}
use Rattle.wire_spec.specs.Size.{are_fixed}
use Rattle.record_iter.specs.declared.place.ValuePlace.{ValuePlace}
use Rattle.prepared_lines.specs.General.{most_of_line}
use Rattle.prepared_lines.specs.Places.{fixed_places}
use Rattle.prepared_lines.proofs.LineLemmas.{within_places, fixed_many, hot_way, placed_way}
use Rattle.prepared_lines.proofs.choose.way_of.Goals as goal

pub hot_line-requires : goal.hot_line-requires
hot_line-requires c =
    within_places (length c.args.fields.now) c.deref.result.now c.args.members.now (ap length (c.deref.ensures.value ∙ c.in_ok-places.ensures) ∙ fixed_many 0 c.args.fields.now) c.requires

pub returns-in-Some : goal.returns-in-Some
returns-in-Some c =
    let are : c.deref.result.now ≡ fixed_places 0 c.args.fields.now = c.deref.ensures.value ∙ c.in_ok-places.ensures in
    let fixed : are_fixed c.args.fields.now ≡ true = cc in
    hot_way c.args.fields.now c.args.members.now c.args.end.now c.in-Some.line c.deref.result.now fixed are
    (within_places (length c.args.fields.now) c.deref.result.now c.args.members.now (ap length are ∙ fixed_many 0 c.args.fields.now) c.requires) (rw c.in-Some.is at c.in_ok-line.ensures)

pub most_of_line-requires : goal.most_of_line-requires
most_of_line-requires c =
    within_places (length c.args.fields.now) c.deref-2.result.now c.args.members.now (ap length (c.deref-2.ensures.value ∙ c.in_ok-places.ensures) ∙ fixed_many 0 c.args.fields.now) c.requires

pub returns : goal.returns
returns c =
    let fixed : are_fixed c.args.fields.now ≡ true = cc in
    placed_way c.args.fields.now c.args.members.now c.args.end.now (record { places = c.in_ok-places.places; most = c.in_ok-most.most }) fixed c.in_ok-places.ensures
    (c.in_ok-most.ensures ∙ ap (λ (l : List ValuePlace). most_of_line l c.args.members.now c.args.end.now) c.deref-2.ensures.value)
