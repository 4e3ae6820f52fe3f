-- Records where they stand are those of an item.
use Rattle.std.proofs.Common.{◌≡◌, ℕ, ◌+◌, List, [], ◌∷◌, ◌++◌, length, map, ap, sym, refl, ◌∙◌, arith}
use Rattle.std.proofs.lemmas.List.{length-map}
use Rattle.std.proofs.lemmas.List.Sums.{sum_by-cons}
use Rattle.wire_spec.specs.declared.field.FieldSpec.{FieldSpec}
use Rattle.run_spec.specs.Records.{Record}
use Rattle.run_spec.specs.Outcome.{DecodedSet}
use Rattle.run_spec.specs.Work.{Item}
use Rattle.run_spec.specs.Work.Item.{Note, Tick, Data}
use Rattle.std.specs.List.{flat_map}
use Rattle.pipeline_message.specs.declared.message.Place.{Place}
use Rattle.pipeline_message.specs.Items.{octets_at, record_at}
use Rattle.file_output.specs.declared.placed.PlacedSet.{PlacedSet}
use Rattle.file_output.specs.Sets.{sets_size}
use Rattle.file_output.specs.Stands.{IsOfSet, AreOfSets, IsItemOf}
use Rattle.file_output.specs.Within.{octets_placed, placed_size}
use Rattle.file_output.specs.Placed.{body_of, placed_sets_size, IsPlacedSet, ArePlacedSets, IsPlacedItem}
use Rattle.file_output.proofs.RunLemmas.{placed_long}

pub placed_sized : (sets : List PlacedSet) → sets_size body_of sets ≡ placed_sets_size sets
placed_sized [] = refl
placed_sized (s ∷ sets) =
    let one = placed_long s.octets.now s.places.now s.inside in
    let more = placed_sized sets in
    let a = sum_by-cons (λ (x : PlacedSet). 4 + length (body_of x).octets) s sets in
    let b = sum_by-cons (λ (x : PlacedSet). 4 + placed_size x.places.now) s sets in
    omega arith

octets_of_records : (fields : List FieldSpec) (octets : List ℕ) (places : List Place) → octets_placed octets places ≡ flat_map (λ (r : Record). r.octets) (map (record_at fields octets) places)
octets_of_records fields octets [] = refl
octets_of_records fields octets (p ∷ places) = ap (λ o. octets_at octets p ++ o) (octets_of_records fields octets places)

is_of_set : (s : PlacedSet) (d : DecodedSet) → IsPlacedSet s d → IsOfSet (body_of s) d
is_of_set s d p =
    let long : length d.records ≡ length s.places.now = ap (λ (l : List Record). length l) p.records ∙ length-map s.places.now (record_at d.definition.fields s.octets.now) in
    record {
      definition = p.definition;
      octets = octets_of_records d.definition.fields s.octets.now s.places.now ∙ ap (λ (l : List Record). flat_map (λ (r : Record). r.octets) l) (sym p.records);
      records = sym long;
      some = let some = p.some in omega arith;
    }

are_of_sets : (sets : List PlacedSet) (decoded : List DecodedSet) → ArePlacedSets sets decoded → AreOfSets body_of sets decoded
are_of_sets [] [] p = tt
are_of_sets [] (d ∷ decoded) p = absurd p
are_of_sets (s ∷ sets) [] p = absurd p
are_of_sets (s ∷ sets) (d ∷ decoded) p = (is_of_set s d p.0, are_of_sets sets decoded p.1)

pub placed_item : (domain export : ℕ) (sets : List PlacedSet) (item : Item) → IsPlacedItem domain export sets item → IsItemOf body_of domain export sets item
placed_item domain export sets (Data key d e sequence decoded) p = (p.0, p.1, are_of_sets sets decoded p.2)
placed_item domain export sets (Note key transport opened) p = absurd p
placed_item domain export sets (Tick input seconds) p = absurd p
