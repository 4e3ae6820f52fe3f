use Rattle.std.proofs.Common.{◌≡◌, ◌≤◌, ◌+◌, ◌*◌, ◌++◌, take}
use Rattle.std.specs.List.{flat_map}
use Rattle.prepared_lines.specs.Hot.{hot_text}
use Rattle.prepared_lines.proofs.hot.place_members.Given as goal

abbrev pub invariant-loop-member : goal.invariant-loop-member
invariant-loop-member l =
    record {
      grown : take l.end l.text ≡ take l.fn.at l.fn.text ++ flat_map (hot_text l.fn.rec) (take l.member-index l.members);
      near : l.end ≤ l.fn.at + 84 * l.member-index;
    }
