use Rattle.std.proofs.Common.{◌≡◌, map, drop}
use Rattle.std.specs.List.{AllByRecursion}
use Rattle.wire_spec.specs.Values.{values_of}
use Rattle.act_spec.specs.Filter.{keeps_by}
use Rattle.filter_stage.specs.Prepared.{rule_of, HasPlaces}
use Rattle.filter_stage.proofs.prepared.keeps_fixed.Given as goal

-- the rules that are left decide
abbrev pub invariant-loop-prepared : goal.invariant-loop-prepared
invariant-loop-prepared l = record {
  left : keeps_by l.default_keep (map rule_of (drop l.prepared-index l.rules)) l.def.fields (values_of l.def.fields l.rec) ≡ keeps_by l.default_keep (map rule_of l.rules) l.def.fields (values_of l.def.fields l.rec);
  places : AllByRecursion (HasPlaces l.def.fields) (drop l.prepared-index l.rules);
}
