-- The sets of a message, one more at a time.
use Rattle.std.proofs.Common.{◌≡◌, ℕ, ◌+◌, ◌<◌, ◌≤◌, List, [], ◌∷◌, ◌++◌, length, length-drop, length-take-le, map, take, drop, get_or, ap, sym, subst, refl, ◌∙◌, arith}
use Rattle.std.specs.Prelude.{◌≢◌, sum_by}
use Rattle.std.specs.List.{AllByRecursion}
use Rattle.std.proofs.lemmas.List.{map-append, take_more}
use Rattle.std.proofs.lemmas.List.Elements.{All-from_recursion, All-get_or, recursion_from_All}
use Rattle.std.proofs.lemmas.List.Sums.{sum_by-cons}
use Rattle.wire_spec.specs.declared.field.FieldSpec.{FieldSpec}
use Rattle.run_spec.specs.Records.{Record}
use Rattle.run_spec.specs.Outcome.{DecodedSet}
use Rattle.file_spec.specs.Fit.{set_octets}
use Rattle.pipeline_message.specs.declared.message.Place.{Place}
use Rattle.pipeline_message.specs.declared.message.DataSet.{DataSet}
use Rattle.pipeline_message.specs.declared.message.DataMessage.{DataMessage}
use Rattle.pipeline_message.specs.Items.{IsSound, IsSoundSet, octets_at, record_at, set_of}
use Rattle.file_output.specs.declared.placed.PlacedSet.{PlacedSet}
use Rattle.file_output.specs.Placed.{ArePlacedSets, Holds, IsPlacedSet, placed_sets_size}
use Rattle.file_output.specs.Within.{IsWithin, placed_size}
use Rattle.file_texts.specs.Texts.{AreSetsOf}

-- each set of a sound message is sound
pub sound_at : (octets : List ℕ) (sets : List DataSet) (i : ℕ) (d : DataSet) → i < length sets → AllByRecursion (IsSoundSet octets) sets → IsSoundSet octets (get_or sets i d)
sound_at octets sets i d l sound = All-get_or (IsSoundSet octets) sets i d l (All-from_recursion (IsSoundSet octets) sets sound)

more_placed : (sets : List PlacedSet) (decoded : List DecodedSet) (s : PlacedSet) (d : DecodedSet) → ArePlacedSets sets decoded → IsPlacedSet s d → ArePlacedSets (sets ++ s ∷ []) (decoded ++ d ∷ [])
more_placed [] [] s d are is = (is, tt)
more_placed [] (e ∷ decoded) s d are is = absurd are
more_placed (r ∷ sets) [] s d are is = absurd are
more_placed (r ∷ sets) (e ∷ decoded) s d are is = (are.0, more_placed sets decoded s d are.1 is)

some_places : (places : List Place) → places ≢ [] → 0 < length places
some_places [] some = absurd (some refl)
some_places (p ∷ places) some = omega arith

is_placed : (octets : List ℕ) (x : DataSet) (s : PlacedSet) → IsSoundSet octets x → Holds x.def.value octets x.places.items s → IsPlacedSet s (set_of octets x)
is_placed octets x s sound h =
    record {
      definition = h.is;
      records = λ i. map (record_at x.def.value.fields (sym h.there i)) (sym h.at i);
      some = subst (λ (l : List Place). 0 < length l) (sym h.at) (some_places x.places.items sound.0);
    }

-- the next set of a message behind those before it
pub one_more_placed : (octets : List ℕ) (all : List DataSet) (i : ℕ) (d x : DataSet) (sets : List PlacedSet) (s : PlacedSet) → i < length all → x ≡ get_or all i d → AllByRecursion (IsSoundSet octets) all
    → Holds x.def.value octets x.places.items s → ArePlacedSets sets (map (set_of octets) (take i all)) → ArePlacedSets (sets ++ s ∷ []) (map (set_of octets) (take (i + 1) all))
one_more_placed octets all i d x sets s l e sound h are =
    subst (ArePlacedSets (sets ++ s ∷ [])) (sym (ap (map (set_of octets)) (take_more all i d l ∙ ap (λ y. take i all ++ y ∷ []) (sym e)) ∙ map-append (set_of octets) (take i all) (x ∷ [])))
    (more_placed sets (map (set_of octets) (take i all)) s (set_of octets x) are (is_placed octets x s (subst (IsSoundSet octets) (sym e) (sound_at octets all i d l sound)) h))

-- ---- they have room where those of the message have

records_sized : (fields : List FieldSpec) (octets : List ℕ) (places : List Place) → AllByRecursion (IsWithin octets) places → placed_size places ≡ sum_by (λ (r : Record). length r.octets) (map (record_at fields octets) places)
records_sized fields octets [] within = refl
records_sized fields octets (p ∷ places) within =
    let inside : p.start + p.len ≤ length octets = within.0 in
    let l : length (octets_at octets p) ≡ p.len = length-take-le p.len (drop p.start octets) (let d = length-drop p.start octets in omega arith) in
    let more = records_sized fields octets places within.1 in
    let a = sum_by-cons (λ (q : Place). q.len) p places in
    let b = sum_by-cons (λ (r : Record). length r.octets) (record_at fields octets p) (map (record_at fields octets) places) in
    omega arith

set_sized : (s : PlacedSet) (d : DecodedSet) → IsPlacedSet s d → 4 + placed_size s.places.now ≡ set_octets d
set_sized s d is =
    let size = records_sized d.definition.fields s.octets.now s.places.now (recursion_from_All (IsWithin s.octets.now) s.places.now s.inside) in
    let same = ap (λ (l : List Record). sum_by (λ (r : Record). length r.octets) l) is.records in
    omega arith

sets_sized : (sets : List PlacedSet) (decoded : List DecodedSet) → ArePlacedSets sets decoded → placed_sets_size sets ≡ sum_by set_octets decoded
sets_sized [] [] are = refl
sets_sized [] (d ∷ decoded) are = absurd are
sets_sized (s ∷ sets) [] are = absurd are
sets_sized (s ∷ sets) (d ∷ decoded) are =
    let one = set_sized s d are.0 in
    let more = sets_sized sets decoded are.1 in
    let a = sum_by-cons (λ (x : PlacedSet). 4 + placed_size x.places.now) s sets in
    let b = sum_by-cons set_octets d decoded in
    omega arith

pub sets_are : (m : DataMessage) (sets : List PlacedSet) → IsSound m → ArePlacedSets sets (map (set_of m.octets.value) m.sets.items) → AreSetsOf m sets
sets_are m sets sound are =
    let size = sets_sized sets (map (set_of m.octets.value) m.sets.items) are in
    let room = sound.1 in
    record { each = are; room = omega arith }
