use Rattle.file_run.proofs.JoinLemmas.{AreJoined}
use Rattle.file_run.proofs.sets.join_records.Given as goal

-- the octets so far are records
abbrev pub invariant-loop-word : goal.invariant-loop-word
invariant-loop-word l = AreJoined l.def.value.fields l.octets
