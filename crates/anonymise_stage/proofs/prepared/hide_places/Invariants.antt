use Rattle.std.proofs.Common.{◌≡◌, ◌≤◌, ◌+◌, length, drop}
use Rattle.std.specs.List.{AllByRecursion}
use Rattle.config_spec.specs.declared.tables.AnonTable.{AnonTable}
use Rattle.anonymise_stage.specs.Prepared.{hidden_at}
use Rattle.anonymise_stage.specs.Table.{Holds}
use Rattle.anonymise_stage.proofs.prepared.hide_places.Given as goal

-- the places that are left
abbrev pub invariant-loop-place : goal.invariant-loop-place
invariant-loop-place l = record {
  left : (table : AnonTable) → Holds table l.rows → hidden_at table (drop l.place-index l.places) l.rec ≡ hidden_at table l.places l.fn.rec;
  inside : AllByRecursion (λ p. p.at + p.len ≤ length l.rec) (drop l.place-index l.places);
}
