use Rattle.std.proofs.Common.{◌∙◌}
use Rattle.arrival_spec.specs.Run.{marks_of}
use Rattle.run_spec.specs.Work.{works_of}
use Rattle.parser_lane.specs.Parsers.{inputs}
use Rattle.run_input.specs.Sums.{both_counts}
use Rattle.run_input.proofs.SumLemmas.{all_counted}
use Rattle.run_input.proofs.input.Input.counts.Goals as goal

pub returns : goal.returns
returns g c settings number given read d =
    let x = c.args.self.now in
    c.added.ensures ∙ ((λ i. both_counts (c.counts.ensures i) (c.counts-2.ensures i)) ∙ all_counted (inputs settings) (marks_of settings number given) (works_of (inputs settings) read) x.inlet.lane.state.tally x.parser.sessions.counts d.marks d.works)
