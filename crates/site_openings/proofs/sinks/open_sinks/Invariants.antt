use Rattle.std.proofs.Common.{take}
use Rattle.site_openings.specs.Sinks.{SinksOut}
use Rattle.site_openings.proofs.sinks.open_sinks.Given as goal

abbrev pub invariant-loop-i : goal.invariant-loop-i
invariant-loop-i g l = SinksOut g.S.Out.Sink.held g.S.Out.Sink.faults (take l.i l.names) l.sinks.items (g.S.Site.seen l.fn.site) (g.S.Site.seen l.site)
