use Rattle.std.proofs.Common.{◌≡◌, ◌++◌, ◌∷◌, [], List, ℕ, take, get_or, ap, sym, subst, ◌∙◌}
use Rattle.pipeline_message.specs.declared.message.Place.{Place}
use Rattle.pipeline_message.specs.Items.{IsRecordAt, record_at}
use Rattle.run_spec.specs.Records.{record_of}
use Rattle.stage_chain.specs.Behind.{AreLeft, records_behind}
use Rattle.stage_chain.proofs.BehindLemmas.{none_behind}
use Rattle.pipeline_message.proofs.PlaceLemmas.{first_place}
use Rattle.stage_chain.proofs.LeftLemmas.{left_none, left_kept, left_gone, place_more}
use Rattle.stage_chain.proofs.left.keep_places.Goals as goal
use Rattle.stage_chain.proofs.left.keep_places.Goals.{then-all_keep+in_ok-push, else-all_keep}

pub loop-place-init : goal.loop-place-init
loop-place-init c = record {
  left = left_none c.args.stages.now c.args.def.now c.args.octets.now c.args.octets.now c.clear.new.self.items c.clear.ensures.items (none_behind c.args.stages.now c.args.def.now);
  sound = c.requires.sound;
}

pub loop-place-preserved : goal.loop-place-preserved
loop-place-preserved c =
    let works = c.args.stages.now in
    let def = c.args.def.now in
    let octets = c.args.octets.now in
    let all = c.args.places.now in
    let i = c.loop-place.place-index in
    let d : Place = record { start = 0; len = 0 } in
    let p = get_or all i d in
    let lt = c.loop-place-test.true in
    let first = first_place (IsRecordAt def.fields octets) all i d lt c.loop-place.invariant.sound in
    let kept = c.loop-place.kept.items in
    record {
      left = place_more works def octets all i d octets c.if-all_keep.kept.items lt (elim c.if-all_keep.branch [
        | then-all_keep+in_ok-push w ↦
            (let last : records_behind works def (record_at def.fields octets p ∷ []) ≡ record_at def.fields octets p ∷ [] =
            subst (λ (o : List ℕ). records_behind works def (record_of def.fields o ∷ []) ≡ record_of def.fields o ∷ []) c.octets_at.ensures w.if-all_keep.ensures in
            let items : c.if-all_keep.kept.items ≡ kept ++ p ∷ [] = ap (λ v. v.items) w.kept-is ∙ w.in_ok-push.ensures.items in
            subst (AreLeft works def octets (take i all ++ p ∷ []) octets) (sym items) (left_kept works def octets (take i all) p kept c.loop-place.invariant.left last first.0))
        | else-all_keep w ↦
            (let last : records_behind works def (record_at def.fields octets p ∷ []) ≡ [] =
            subst (λ (o : List ℕ). records_behind works def (record_of def.fields o ∷ []) ≡ []) c.octets_at.ensures w.if-all_keep.ensures in
            subst (AreLeft works def octets (take i all ++ p ∷ []) octets) (sym (ap (λ v. v.items) w.kept-is)) (left_gone works def octets (take i all) p octets kept c.loop-place.invariant.left last))
      ]);
      sound = first.1;
    }
