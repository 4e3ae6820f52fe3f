use Rattle.parser_lane.proofs.SessionLemmas.{takes}
use Rattle.parser_tests.proofs.arrivals.bring.Goals as goal

pub work-requires : goal.work-requires
work-requires c = record { settings = c.requires.settings; read = c.requires.read; stands = λ e. c.requires.stands; comes = c.requires.is_open }

pub returns : goal.returns
returns c = takes c.args.parser.now c.work.new.self c.args.key _ _ c.requires c.in_ok-work.ensures.ok.2
