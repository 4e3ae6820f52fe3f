use Rattle.std.proofs.Common.{◌≡◌, ◌++◌, true, map, drop}
use Rattle.std.specs.Prelude.{filter}
use Rattle.std.specs.List.{AllByRecursion}
use Rattle.wire_spec.specs.Size.{are_fixed}
use Rattle.filter_stage.specs.Prepared.{rule_of, applies, HasPlaces}
use Rattle.filter_stage.proofs.prepared.PreparedFilter.new.Given as goal

-- the rules so far, and those of the rules left that apply
abbrev pub invariant-loop-rule : goal.invariant-loop-rule
invariant-loop-rule l = record {
  left : map rule_of l.rules.items ++ filter (applies l.def.fields) (drop l.rule-index l.rule-items) ≡ filter (applies l.def.fields) l.table.rules;
  places : are_fixed l.def.fields ≡ true → AllByRecursion (HasPlaces l.def.fields) l.rules.items;
}
