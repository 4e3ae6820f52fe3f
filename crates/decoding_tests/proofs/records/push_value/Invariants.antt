use Rattle.std.proofs.Common.{◌≡◌, ◌∷◌, ◌++◌, length, take}
use Rattle.decoding_tests.proofs.records.push_value.Given as goal

abbrev pub invariant-loop-octet : goal.invariant-loop-octet
invariant-loop-octet l = l.rows.items ≡ l.fn.rows.items ++ (l.fn.field.at ∷ length l.fn.field.value.now ∷ take l.octet-index l.octet-items)
