use Rattle.std.proofs.Common.{length, sym, subst, ◌∙◌, ap}
use Rattle.call_spec.specs.Came.{Refusal}
use Rattle.site_openings.specs.All.{IsRefused}
use Rattle.site_openings.proofs.AllLemmas.{any_source, any_sink, long_sources}
use Rattle.site_openings.proofs.all.open_all.Goals as goal

pub returns-in-Err-clause-err : goal.returns-in-Err-clause-err
returns-in-Err-clause-err g c =
    let e = rw c.as_slice.ensures at c.in-Err.ensures.err in
    subst (λ (r : Refusal). IsRefused g.S.Src.Source.left g.S.Src.Source.faults c.args.conf.now r (g.S.Site.seen c.args.site.now) (g.S.Site.seen c.open_sources.new.site)) (sym c.unopened_source.ensures)
    (any_source g.S.Src.Source.left g.S.Src.Source.faults c.args.conf.now e.0 c.in-Err.stopped (g.S.Site.seen c.args.site.now) (g.S.Site.seen c.open_sources.new.site) e.1)

pub back_sources-requires-clause-lengths : goal.back_sources-requires-clause-lengths
back_sources-requires-clause-lengths g c κs within =
    let o = rw c.as_slice.ensures at c.in-Ok.ensures.ok in
    long_sources g.S.Src.Source.left g.S.Src.Source.faults c.args.conf.now c.in-Ok.sources.items (g.S.Site.seen c.args.site.now) (g.S.Site.seen c.open_sources.new.site) o ∙ ap length (sym c.as_slice-in-Err-open_sinks.ensures)

pub returns-in-Err-open_sinks-clause-err : goal.returns-in-Err-open_sinks-clause-err
returns-in-Err-open_sinks-clause-err g c =
    let o = rw c.as_slice.ensures at c.in-Ok.ensures.ok in
    let r = rw c.as_slice-in-Err-open_sinks.ensures at c.back_sources.ensures in
    let s = c.in-Err-open_sinks.ensures.err in
    subst (λ (x : Refusal). IsRefused g.S.Src.Source.left g.S.Src.Source.faults c.args.conf.now x (g.S.Site.seen c.args.site.now) (g.S.Site.seen c.back_sources.new.site)) (sym c.unopened_sink.ensures)
    (any_sink g.S.Src.Source.left g.S.Src.Source.faults c.args.conf.now c.in-Ok.sources.items c.args.names.now (g.S.Site.seen c.args.site.now) (g.S.Site.seen c.open_sources.new.site) (g.S.Site.seen c.open_sinks.new.site) (g.S.Site.seen c.back_sources.new.site) o r s.1.rest.places
    s.0 c.in-Err-open_sinks.stopped c.requires.named s.1)
