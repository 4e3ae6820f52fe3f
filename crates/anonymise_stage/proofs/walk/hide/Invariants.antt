use Rattle.std.proofs.Common.{◌≡◌, ◌≤◌, ◌++◌, drop, take, length}
use Rattle.wire_spec.specs.Record.{IsSomeRecord}
use Rattle.act_spec.specs.Anonymise.{hidden_octets}
use Rattle.anonymise_stage.proofs.walk.hide.Given as goal

abbrev pub invariant-loop-field : goal.invariant-loop-field
invariant-loop-field l = record {
  left : take l.at l.rec ++ hidden_octets l.table (drop l.field-index l.field-items) (drop l.at l.rec) ≡ hidden_octets l.table l.def.fields l.fn.rec;
  inside : l.at ≤ length l.rec;
  rest : IsSomeRecord (drop l.field-index l.field-items) (drop l.at l.rec);
}
