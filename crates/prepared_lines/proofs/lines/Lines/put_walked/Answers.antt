use Rattle.std.proofs.Common.{◌≡◌, ℕ, List, ◌++◌, length, take, drop, ap, subst, arith, ◌∙◌}
use Rattle.std.specs.List.{flat_map}
use Rattle.std.proofs.lemmas.Grind.{common_steps}
use Rattle.record_iter.specs.declared.place.ValuePlace.{ValuePlace}
use Rattle.prepared_lines.specs.General.{text_at}
use Rattle.prepared_lines.proofs.LineLemmas.{within_places, places_many, placed_is}
use Rattle.prepared_lines.proofs.lines.Lines.put_walked.Goals as goal

pub most_of_line-requires : goal.most_of_line-requires
most_of_line-requires c =
    let some = c.requires.whole in
    within_places (length c.args.fields.now) c.deref.result.now c.args.members.now
    (ap length c.deref.ensures.value ∙ places_many c.args.fields.now c.args.rec.now c.find_places.new.places.items some.0 some.1 (c.in_ok-find_places.ensures some.0 some.1)) c.requires.within

pub place_line-self-inside-requires-clause-within : goal.place_line-self-inside-requires-clause-within
place_line-self-inside-requires-clause-within c =
    let some = c.requires.whole in
    within_places (length c.args.fields.now) c.deref-2.result.now c.args.members.now
    (ap length c.deref-2.ensures.value ∙ places_many c.args.fields.now c.args.rec.now c.find_places.new.places.items some.0 some.1 (c.in_ok-find_places.ensures some.0 some.1)) c.requires.within

pub returns-clause-ok : goal.returns-clause-ok
returns-clause-ok c =
    let some = c.requires.whole in
    let stand = c.in_ok-find_places.ensures some.0 some.1 in
    let within = within_places (length c.args.fields.now) c.find_places.new.places.items c.args.members.now (places_many c.args.fields.now c.args.rec.now c.find_places.new.places.items some.0 some.1 stand) c.requires.within in
    let same = ap (λ (l : List ValuePlace). flat_map (text_at c.args.rec.now l) c.args.members.now) c.deref-2.ensures.value ∙ placed_is c.args.rec.now c.find_places.new.places.items some.0 c.args.members.now stand within in (
      some.0,
      some.1,
      subst (λ (l : List ℕ). take c.place_line-self-inside.result (take c.make_room.new.room.len (c.place_line-self-inside.new.text ++ drop (length c.place_line-self-inside.new.text) c.make_room.new.room.items)) ≡ c.args.self.now ++ (l ++ c.args.end.now)) same
          (grind (arith, common_steps)),
    )
