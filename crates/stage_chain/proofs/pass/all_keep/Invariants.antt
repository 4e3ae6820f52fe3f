use Rattle.std.proofs.Common.{◌≡◌, [], ◌∷◌, false, drop}
use Rattle.std.specs.List.{list_any}
use Rattle.run_spec.specs.Records.{record_of}
use Rattle.stage_chain.specs.Behind.{changes, records_behind}
use Rattle.stage_chain.specs.Suits.{AreSuited}
use Rattle.stage_chain.proofs.pass.all_keep.Given as goal

-- the intermediates that are left decide
abbrev pub invariant-loop-stage : goal.invariant-loop-stage
invariant-loop-stage l = record {
  left : records_behind l._stages l.def (record_of l.def.fields l.rec ∷ []) ≡ records_behind (drop l.stage-index l._stages) l.def (record_of l.def.fields l.rec ∷ []);
  suit : AreSuited (drop l.stage-index l._stages) l.def.fields (drop l.stage-index l.prepared);
  none : list_any changes (drop l.stage-index l._stages) ≡ false;
}
