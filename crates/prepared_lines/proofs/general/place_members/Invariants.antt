use Rattle.std.proofs.Common.{◌≡◌, ◌≤◌, ◌+◌, ◌++◌, take}
use Rattle.std.specs.List.{flat_map, sum_by}
use Rattle.prepared_lines.specs.General.{most_at, text_at}
use Rattle.prepared_lines.proofs.general.place_members.Given as goal

abbrev pub invariant-loop-member : goal.invariant-loop-member
invariant-loop-member l =
    record {
      grown : take l.end l.text ≡ take l.fn.at l.fn.text ++ flat_map (text_at l.rec l.places) (take l.member-index l.members);
      near : l.end ≤ l.fn.at + sum_by (most_at l.places) (take l.member-index l.members);
    }
