use Rattle.std.proofs.Common.{◌≡◌, ◌+◌, ◌++◌, true, drop}
use Rattle.wire_spec.specs.Record.{shortest}
use Rattle.wire_spec.specs.Size.{are_fixed}
use Rattle.anonymise_stage.specs.Prepared.{places_of}
use Rattle.anonymise_stage.proofs.prepared.places_of.Given as goal

-- the places so far, and those of the fields that are left
abbrev pub invariant-loop-field : goal.invariant-loop-field
invariant-loop-field l = record {
  left : l.places.items ++ places_of l.table l.at (drop l.field-index l.fields) ≡ places_of l.table 0 l.fields;
  ends : l.at + shortest (drop l.field-index l.fields) ≡ shortest l.fields;
  fixed : are_fixed (drop l.field-index l.fields) ≡ true;
}
