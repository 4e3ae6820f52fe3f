use Rattle.std.proofs.Common.{◌≤◌, length, vec_len}
use Rattle.site_openings.proofs.SinkLemmas.{SinksBackSoFar}
use Rattle.site_openings.proofs.sinks.back_sinks.Given as goal

abbrev pub invariant-loop-sink : goal.invariant-loop-sink
invariant-loop-sink g l = record {
  so_far : SinksBackSoFar g.S.Out.Sink.held g.S.Out.Sink.faults l.names l.fn.sinks.items l.sinks.items (g.S.Site.seen l.fn.site) (g.S.Site.seen l.site);
  short : vec_len l.sinks ≤ length l.names;
}

abbrev pub decreases-loop-sink : goal.decreases-loop-sink
decreases-loop-sink g l = vec_len l.sinks
