use Rattle.std.proofs.Common.{◌+◌, ◌≤◌, ◌∙◌, sym, subst, ap, List, ℕ, drop, length}
use Rattle.std.specs.List.{AllByRecursion}
use Rattle.std.proofs.lemmas.List.{drop_more}
use Rattle.record_iter.specs.declared.place.ValuePlace.{ValuePlace}
use Rattle.anonymise_stage.specs.Prepared.{hidden_at}
use Rattle.anonymise_stage.proofs.prepared.hide_places.Goals as goal

pub loop-place-preserved : goal.loop-place-preserved
loop-place-preserved c =
    let all = c.args.places.now in
    let i = c.loop-place.place-index in
    let d : ValuePlace = record { at = 0; len = 0 } in
    let split = drop_more all i d c.loop-place-test.true in
    let inside = subst (AllByRecursion (λ (p : ValuePlace). p.at + p.len ≤ length c.loop-place.rec)) split c.loop-place.invariant.inside in
    record {
      left = λ table h. ap (hidden_at table (drop (i + 1) all)) (c.hide_at.ensures table h)
          ∙ (ap (λ (places : List ValuePlace). hidden_at table places c.loop-place.rec) (sym split) ∙ c.loop-place.invariant.left table h);
      inside = subst (λ (n : ℕ). AllByRecursion (λ (p : ValuePlace). p.at + p.len ≤ n) (drop (i + 1) all)) (sym c.hide_at.auto.rec) inside.1;
    }
