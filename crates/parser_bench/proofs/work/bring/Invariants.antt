use Rattle.parser_lane.specs.Session.{HasOpen}
use Rattle.parser_bench.specs.Given.{IsMessageOf}
use Rattle.parser_bench.proofs.work.bring.Given as goal

abbrev pub invariant-loop : goal.invariant-loop
invariant-loop l = HasOpen l.fn.key l.parser × IsMessageOf l.fn.key l.arrival
