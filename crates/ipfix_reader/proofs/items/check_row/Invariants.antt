use Rattle.std.proofs.Common.{◌≡◌, ◌++◌, List, ℕ, length}
use Rattle.std.specs.List.{AllByRecursion, concat}
use Rattle.ipfix_reader.proofs.items.check_row.Given as goal

abbrev pub invariant-loop-rest : goal.invariant-loop-rest
invariant-loop-rest g l = (before : List (List ℕ)) × AllByRecursion (g.K.Items.is l.kind) before × (l.fn.octets ≡ concat before ++ l.rest) × (l.at ≡ length (concat before))

abbrev pub decreases-loop-rest : goal.decreases-loop-rest
decreases-loop-rest g l = length l.rest
