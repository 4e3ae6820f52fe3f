use Rattle.std.proofs.Common.{◌≡◌, ◌++◌, map, length}
use Rattle.arrival_spec.specs.Arrival.Arrival.{Raw}
use Rattle.arrival_spec.specs.Cutting.{cutting}
use Rattle.input_lane.specs.Hands.{meant}
use Rattle.input_lane.proofs.hand.cut.Given as goal

abbrev pub invariant-loop-message : goal.invariant-loop-message
invariant-loop-message l = record {
  hand : meant l.hand.items ++ map (Raw l.key) (cutting l.cutter).messages ≡ meant l.initial.hand.items ++ map (Raw l.key) (cutting l.initial.cutter).messages;
  rest : (cutting l.cutter).rest ≡ (cutting l.initial.cutter).rest;
}

abbrev pub decreases-loop-message : goal.decreases-loop-message
decreases-loop-message l = length l.cutter
