use Rattle.std.proofs.Common.{◌≡◌, ℕ, ◌+◌, ◌<◌, ◌≤◌, List, arith, length, map, take, take_all, get_or, sym, subst, ap, ◌∙◌}
use Rattle.pipeline_message.specs.declared.message.DataSet.{DataSet}
use Rattle.pipeline_message.specs.declared.message.Place.{Place}
use Rattle.pipeline_message.specs.Items.{set_of}
use Rattle.file_output.specs.declared.placed.PlacedSet.{PlacedSet}
use Rattle.file_output.specs.Placed.{ArePlacedSets, Holds}
use Rattle.file_texts.proofs.SetLemmas.{one_more_placed, sets_are}
use Rattle.file_texts.proofs.placed.sets_of.Goals as goal

pub loop-set-preserved : goal.loop-set-preserved
loop-set-preserved c =
    let m = c.args.message.now in
    let l = c.loop-set in
    let s = c.in-Some.placed in
    let x = c.set-item.result in
    let all : c.as_slice-set-items.result.now ≡ m.sets.items = c.as_slice-set-items.ensures.value in
    let octets : c.as_slice-octets.result.now ≡ m.octets.value = c.as_slice-octets.ensures ∙ c.deref.ensures in
    let places : c.as_slice.result.now ≡ x.places.items = c.as_slice.ensures.value in
    let holds : Holds x.def.value m.octets.value x.places.items s =
    subst (λ (o : List ℕ). Holds x.def.value o x.places.items s) octets (subst (λ (p : List Place). Holds x.def.value c.as_slice-octets.result.now p s) places c.in-Some.ensures) in
    subst (λ (sets : List PlacedSet). ArePlacedSets sets (map (set_of m.octets.value) (take (l.set-index + 1) m.sets.items))) (sym c.in-Ok-push.ensures.items)
    (one_more_placed m.octets.value m.sets.items l.set-index x x l.sets.items s (subst (λ (xs : List DataSet). l.set-index < length xs) all c.loop-set-test.true) (c.set-item.is ∙ ap (λ xs. get_or xs l.set-index x) all) c.requires.0 holds l.invariant)

pub returns : goal.returns
returns c =
    let m = c.args.message.now in
    let l = c.loop-set in
    let same = ap length c.as_slice-set-items.ensures.value in
    let ended = c.loop-set-test.false in
    let all : length m.sets.items ≤ l.set-index = omega arith in
    sets_are m l.sets.items c.requires (subst (λ (xs : List DataSet). ArePlacedSets l.sets.items (map (set_of m.octets.value) xs)) (take_all l.set-index m.sets.items all) l.invariant)
