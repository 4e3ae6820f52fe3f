use Rattle.std.proofs.Common.{◌≡◌, ◌≤◌, ◌++◌, length, map, take, drop}
use Rattle.wire_spec.specs.Record.{IsSomeRecord}
use Rattle.config_spec.specs.declared.tables.AnonTable.{AnonTable}
use Rattle.act_spec.specs.Anonymise.{hidden_octets, is_listed}
use Rattle.anonymise_stage.specs.Table.{Holds}
use Rattle.anonymise_stage.proofs.prepared.hide_listed.Given as goal

-- what is changed so far, and what is left
abbrev pub invariant-loop-index : goal.invariant-loop-index
invariant-loop-index l = record {
  left : (table : AnonTable) → Holds table l.rows → l.listed ≡ map (is_listed table) l.fields → take l.at l.rec ++ hidden_octets table (drop l.index l.fields) (drop l.at l.rec) ≡ hidden_octets table l.fields l.fn.rec;
  inside : l.at ≤ length l.rec;
  rest : IsSomeRecord (drop l.index l.fields) (drop l.at l.rec);
}
