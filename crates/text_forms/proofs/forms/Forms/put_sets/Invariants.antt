use Rattle.std.proofs.Common.{◌≡◌, map, take, drop}
use Rattle.std.specs.List.{AllByRecursion}
use Rattle.pipeline_message.specs.Items.{IsSoundSet, set_of}
use Rattle.text_forms.specs.Puts.{PutsSets}
use Rattle.text_forms.proofs.forms.Forms.put_sets.Given as goal

-- the sets so far, and those that are left
abbrev pub invariant-loop-set : goal.invariant-loop-set
invariant-loop-set l = record {
  same : l.self ≡ l.fn.self;
  puts : PutsSets l.fn.self (map (set_of l.message.octets.value) (take l.set-index l.message.sets.items)) l.fn.lines l.lines l.count;
  sound : AllByRecursion (IsSoundSet l.message.octets.value) (drop l.set-index l.message.sets.items);
}
