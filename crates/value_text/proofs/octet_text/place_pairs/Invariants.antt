use Rattle.std.proofs.Common.{◌≡◌, ◌≤◌, ◌+◌, ◌*◌, ◌++◌, take}
use Rattle.std.specs.List.{flat_map}
use Rattle.text_spec.specs.Value.{hex_pair}
use Rattle.value_text.proofs.octet_text.place_pairs.Given as goal

abbrev pub invariant-loop-octet : goal.invariant-loop-octet
invariant-loop-octet l =
    record {
      grown : take l.end l.text ≡ take l.fn.at l.fn.text ++ flat_map hex_pair (take l.octet-index l.value);
      near : l.end ≤ l.fn.at + 2 * l.octet-index;
    }
