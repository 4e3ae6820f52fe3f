use Rattle.std.proofs.Common.{◌≡◌, ◌+◌, length, take}
use Rattle.std.specs.Prelude.{sum_by}
use Rattle.file_output.proofs.message.count_octets.Given as goal

abbrev pub invariant-loop-set : goal.invariant-loop-set
invariant-loop-set g l = l.size ≡ sum_by (λ s. 4 + length (g.S.SetRecords.body s).octets) (take l.set-index l.sets)
