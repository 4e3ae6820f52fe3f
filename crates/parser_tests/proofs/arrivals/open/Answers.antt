use Rattle.parser_lane.proofs.SessionLemmas.{may_open, opens}
use Rattle.parser_tests.proofs.arrivals.open.Goals as goal

pub work-requires : goal.work-requires
work-requires c = may_open c.args.parser.now c.args.key c.args.transport c.requires

pub returns : goal.returns
returns c = opens c.args.parser.now c.work.new.self c.args.key c.args.transport _ c.requires c.in_ok-work.ensures.ok.2
