use Rattle.std.proofs.Common.{◌≡◌, ◌≤◌, ◌+◌, ◌*◌, ◌++◌, take}
use Rattle.std.specs.List.{flat_map}
use Rattle.value_text.specs.Groups.{later_group}
use Rattle.value_text.proofs.groups.place_later_groups.Given as goal

abbrev pub invariant-loop-group : goal.invariant-loop-group
invariant-loop-group l =
    record {
      grown : take l.end l.text ≡ take l.fn.at l.fn.text ++ flat_map later_group (take l.group-index l.groups);
      near : l.end ≤ l.fn.at + 5 * l.group-index;
    }
