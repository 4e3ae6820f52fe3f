use Rattle.parser_lane.proofs.SessionLemmas.{may_open_first}
use Rattle.parser_tests.proofs.arrivals.parser.Goals as goal

pub returns : goal.returns
returns c = may_open_first c.in_ok-parser.parser c.in_ok-parser.ensures.1
