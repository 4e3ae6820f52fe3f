use Rattle.parser_lane.proofs.SessionLemmas.{may_close, closes}
use Rattle.parser_tests.proofs.arrivals.close.Goals as goal

pub work-requires : goal.work-requires
work-requires c = may_close c.args.parser.now c.args.key c.requires

pub returns : goal.returns
returns c = closes c.args.parser.now c.work.new.self c.args.key _ c.requires c.in_ok-work.ensures.ok.2
