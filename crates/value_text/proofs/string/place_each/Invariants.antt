use Rattle.std.proofs.Common.{◌≡◌, ◌≤◌, ◌+◌, ◌*◌, ◌++◌, take}
use Rattle.text_spec.specs.Value.{escaped}
use Rattle.value_text.proofs.string.place_each.Given as goal

abbrev pub invariant-loop-octet : goal.invariant-loop-octet
invariant-loop-octet l =
    record {
      grown : take l.end l.text ≡ take l.fn.at l.fn.text ++ escaped (take l.octet-index l.value);
      near : l.end ≤ l.fn.at + 6 * l.octet-index;
    }
