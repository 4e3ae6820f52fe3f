use Rattle.std.proofs.Common.{◌≡◌, ◌++◌, take}
use Rattle.std.specs.List.{flat_map}
use Rattle.file_output.specs.Sets.{set_in}
use Rattle.file_output.proofs.message.put_sets.Given as goal

abbrev pub invariant-loop-set : goal.invariant-loop-set
invariant-loop-set g l = l.out ≡ l.fn.out ++ flat_map (λ s. set_in l.known (g.S.SetRecords.body s)) (take l.set-index l.sets)
