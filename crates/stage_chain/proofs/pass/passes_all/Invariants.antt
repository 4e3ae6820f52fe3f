use Rattle.std.proofs.Common.{◌≡◌, [], ◌∷◌, drop}
use Rattle.wire_spec.specs.Record.{IsSomeRecord}
use Rattle.run_spec.specs.Records.{record_of}
use Rattle.stage_chain.specs.Behind.{records_behind}
use Rattle.stage_chain.specs.Suits.{AreSuited}
use Rattle.stage_chain.proofs.pass.passes_all.Given as goal

-- what the intermediates that are left make of the record as it stands now
abbrev pub invariant-loop-index : goal.invariant-loop-index
invariant-loop-index l = record {
  left : records_behind l.stages l.def (record_of l.def.fields l.fn.rec ∷ []) ≡ records_behind (drop l.index l.stages) l.def (record_of l.def.fields l.rec ∷ []);
  suit : AreSuited (drop l.index l.stages) l.def.fields (drop l.index l.prepared);
  is : IsSomeRecord l.def.fields l.rec;
}
