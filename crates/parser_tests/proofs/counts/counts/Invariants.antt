use Rattle.parser_lane.specs.Session.{HasOpen}
use Rattle.parser_tests.proofs.counts.counts.Given as goal

abbrev pub invariant-loop-octets : goal.invariant-loop-octets
invariant-loop-octets l = HasOpen l.key l.parser
