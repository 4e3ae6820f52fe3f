use Rattle.parser_lane.specs.Session.{HasOpen}
use Rattle.parser_bench.proofs.time_rounds.Given as goal

abbrev pub invariant-loop : goal.invariant-loop
invariant-loop g l = HasOpen (record { input = 0; number = 0 }) l.parser
