use Rattle.parser_bench.proofs.GivenLemmas.{brings, may_bring}
use Rattle.parser_bench.proofs.work.bring.Goals as goal

pub work-requires : goal.work-requires
work-requires c = may_bring c.loop.parser c.args.key _ c.loop.invariant.1 c.loop.invariant.0

pub loop-preserved : goal.loop-preserved
loop-preserved c = (brings c.loop.parser c.work.new.self c.args.key _ _ c.loop.invariant.1 c.loop.invariant.0 c.in_ok-msg.ensures.ok.2, c.loop.invariant.1)
