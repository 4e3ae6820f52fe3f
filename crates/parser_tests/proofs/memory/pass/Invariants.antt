use Rattle.parser_lane.specs.Session.{MayOpen}
use Rattle.parser_tests.proofs.memory.pass.Given as goal

abbrev pub invariant-loop-number : goal.invariant-loop-number
invariant-loop-number l = MayOpen l.number l.parser
