use Rattle.std.proofs.Common.{take, drop}
use Rattle.std.specs.List.{AllByRecursion}
use Rattle.pipeline_message.specs.Items.{IsRecordAt}
use Rattle.stage_chain.specs.Behind.{AreLeft}
use Rattle.stage_chain.proofs.left.Left.change_records.Given as goal

abbrev pub invariant-loop-place : goal.invariant-loop-place
invariant-loop-place l = record {
  left : AreLeft l.stages l.def l.octets (take l.place-index l.places) l.self.octets.items l.self.places.items;
  sound : AllByRecursion (IsRecordAt l.def.fields l.octets) (drop l.place-index l.places);
}
