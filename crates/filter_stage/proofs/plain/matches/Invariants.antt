use Rattle.std.proofs.Common.{◌≡◌}
use Rattle.wire_spec.specs.Values.{values_of}
use Rattle.record_iter.specs.Left.{fields_left, octets_left}
use Rattle.act_spec.specs.Filter.{matches}
use Rattle.filter_stage.proofs.plain.matches.Given as goal

-- the fields that are left decide
abbrev pub invariant-loop-found : goal.invariant-loop-found
invariant-loop-found l =
    matches l.rule (fields_left l.found-iterator) (values_of (fields_left l.found-iterator) (octets_left l.found-iterator)) ≡ matches l.rule l.def.fields (values_of l.def.fields l.rec)
