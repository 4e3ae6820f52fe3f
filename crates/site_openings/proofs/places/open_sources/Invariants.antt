use Rattle.std.proofs.Common.{take}
use Rattle.site_openings.specs.Places.{places_of, SourcesOut}
use Rattle.site_openings.proofs.places.open_sources.Given as goal

abbrev pub invariant-loop-i : goal.invariant-loop-i
invariant-loop-i g l = SourcesOut g.S.Src.Source.left g.S.Src.Source.faults (take l.i (places_of l.confs)) l.sources.items (g.S.Site.seen l.fn.site) (g.S.Site.seen l.site)
