use Rattle.std.proofs.Common.{◌≡◌, ◌++◌, map, drop}
use Rattle.act_spec.specs.Anonymise.{is_listed}
use Rattle.anonymise_stage.proofs.prepared.listed.Given as goal

abbrev pub invariant-loop-field : goal.invariant-loop-field
invariant-loop-field l = l.listed.items ++ map (is_listed l.table) (drop l.field-index l.fields) ≡ map (is_listed l.table) l.fields
