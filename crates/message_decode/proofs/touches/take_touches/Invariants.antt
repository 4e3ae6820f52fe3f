use Rattle.std.proofs.Common.{List}
use Rattle.wire_spec.specs.Content.{Touch}
use Rattle.ipfix_reader.specs.Left.{kind_left, templates_left}
use Rattle.ipfix_reader.specs.Walk.{HaveTouched}
use Rattle.message_decode.specs.Steps.{TakesTouches}
use Rattle.message_decode.proofs.touches.take_touches.Given as goal

abbrev pub invariant-loop-raw : goal.invariant-loop-raw
invariant-loop-raw l = (touches : List Touch) × HaveTouched l.fn.set (kind_left l.raw-iterator) (templates_left l.raw-iterator) touches
    × TakesTouches l.fn.export touches l.initial.manager l.manager l.initial.counts l.counts
