use Rattle.std.proofs.Common.{◌≤◌, length, vec_len}
use Rattle.site_openings.specs.Places.{places_of}
use Rattle.site_openings.proofs.PlaceLemmas.{SourcesBackSoFar}
use Rattle.site_openings.proofs.places.back_sources.Given as goal

abbrev pub invariant-loop-source : goal.invariant-loop-source
invariant-loop-source g l = record {
  so_far : SourcesBackSoFar g.S.Src.Source.left g.S.Src.Source.faults (places_of l.confs) l.fn.sources.items l.sources.items (g.S.Site.seen l.fn.site) (g.S.Site.seen l.site);
  short : vec_len l.sources ≤ length l.confs;
}

abbrev pub decreases-loop-source : goal.decreases-loop-source
decreases-loop-source g l = vec_len l.sources
