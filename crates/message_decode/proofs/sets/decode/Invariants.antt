use Rattle.std.proofs.Common.{◌≡◌, List}
use Rattle.wire_spec.specs.Content.{Part}
use Rattle.ipfix_reader.specs.Left.{message_walked, sets_left}
use Rattle.ipfix_reader.specs.Walk.{HaveSaid}
use Rattle.message_decode.specs.declared.decoded.Decoded.{Decoded}
use Rattle.message_decode.specs.Steps.{Begins, Takes}
use Rattle.message_decode.proofs.sets.decode.Given as goal

abbrev pub invariant-loop-set : goal.invariant-loop-set
invariant-loop-set l = (start : Decoded) × (parts : List Part) × Begins l.fn.header.seq start × HaveSaid l.fn.message.octets.now (sets_left l.set-iterator) parts × (message_walked l.set-iterator ≡ l.fn.message.octets.now)
    × Takes l.fn.header.export l.fn.message.octets.now parts l.initial.manager l.manager start l.found
