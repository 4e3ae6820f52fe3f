use Rattle.std.proofs.Common.{◌≡◌, drop}
use Rattle.wire_spec.specs.Values.{values_of}
use Rattle.act_spec.specs.Filter.{keeps, keeps_by}
use Rattle.filter_stage.proofs.plain.keeps.Given as goal

-- the rules that are left decide
abbrev pub invariant-loop-rule : goal.invariant-loop-rule
invariant-loop-rule l = keeps_by l.table.default_keep (drop l.rule-index l.rule-items) l.def.fields (values_of l.def.fields l.rec) ≡ keeps l.table l.def.fields (values_of l.def.fields l.rec)
