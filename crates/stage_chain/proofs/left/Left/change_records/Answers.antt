use Rattle.pipeline_message.specs.declared.message.Place.{Place}
use Rattle.pipeline_message.specs.Items.{IsRecordAt}
use Rattle.stage_chain.proofs.BehindLemmas.{none_behind}
use Rattle.pipeline_message.proofs.PlaceLemmas.{first_place}
use Rattle.stage_chain.proofs.LeftLemmas.{left_none}
use Rattle.stage_chain.proofs.left.Left.change_records.Goals as goal

pub loop-place-init : goal.loop-place-init
loop-place-init c = record {
  left = left_none c.args.stages.now c.args.def.now c.args.octets.now c.clear-2.new.self.items c.clear.new.self.items c.clear.ensures.items (none_behind c.args.stages.now c.args.def.now);
  sound = c.requires.sound;
}

pub change_record-requires-clause-is_record : goal.change_record-requires-clause-is_record
change_record-requires-clause-is_record c =
    let d : Place = record { start = 0; len = 0 } in
    (first_place (IsRecordAt c.args.def.now.fields c.args.octets.now) c.args.places.now c.loop-place.place-index d c.loop-place-test.true c.loop-place.invariant.sound).0
