use Rattle.ipfix_reader.specs.Left.{sets_left}
use Rattle.file_lines.specs.Session.{TakenSoFar}
use Rattle.file_lines.proofs.session.take_sets.Given as goal

abbrev pub invariant-loop-set : goal.invariant-loop-set
invariant-loop-set l = TakenSoFar l.fn.message.octets.now (sets_left l.set-iterator) l.fn.header.domain l.initial.domains l.domains l.initial.texts l.texts
