use Rattle.std.proofs.Common.{take, drop}
use Rattle.std.specs.List.{AllByRecursion}
use Rattle.pipeline_message.specs.Items.{IsSoundSet}
use Rattle.message_stages.specs.Sets.{AreReady, AreSetsLeft}
use Rattle.message_stages.proofs.message.put_sets.Given as goal

-- the sets so far, and those that come
abbrev pub invariant-loop-set : goal.invariant-loop-set
invariant-loop-set l = record {
  ready : AreReady l.stages l.rooms;
  left : AreSetsLeft l.stages l.message.octets.value (take l.set-index l.message.sets.items) l.copies.items l.sets.items;
  sound : AllByRecursion (IsSoundSet l.message.octets.value) (drop l.set-index l.message.sets.items);
}
