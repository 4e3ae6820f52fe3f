use Rattle.std.proofs.Common.{◌≡◌, ◌+◌, ◌%◌, ◌^◌, take}
use Rattle.std.specs.Prelude.{sum_by}
use Rattle.file_output.proofs.domain.advance.Given as goal

abbrev pub invariant-loop-set : goal.invariant-loop-set
invariant-loop-set g l = l.next ≡ (l.fn.sequence + sum_by (λ s. (g.S.SetRecords.body s).records) (take l.set-index l.sets)) % 2 ^ 32
