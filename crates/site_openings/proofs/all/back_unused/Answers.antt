use Rattle.site_openings.proofs.AllLemmas.{refused_unused, sinks_long, sources_long}
use Rattle.site_openings.proofs.all.back_unused.Goals as goal

pub back_all-requires-clause-sources : goal.back_all-requires-clause-sources
back_all-requires-clause-sources g c κs within =
    let out = c.requires.out in
    sources_long g.S.Src.Source.left g.S.Src.Source.faults g.S.Out.Sink.held g.S.Out.Sink.faults c.args.conf.now c.args.opened.sources.items c.args.opened.sinks.items c.args.names.now c.requires.named out.0 (g.S.Site.seen c.args.site.now) out.1

pub back_all-requires-clause-sinks : goal.back_all-requires-clause-sinks
back_all-requires-clause-sinks g c κs within =
    let out = c.requires.out in
    sinks_long g.S.Src.Source.left g.S.Src.Source.faults g.S.Out.Sink.held g.S.Out.Sink.faults c.args.conf.now c.args.opened.sources.items c.args.opened.sinks.items c.args.names.now c.requires.named out.0 (g.S.Site.seen c.args.site.now) out.1

pub returns : goal.returns
returns g c old out =
    let back = c.back_all.ensures in
    refused_unused g.S.Src.Source.left g.S.Src.Source.faults g.S.Out.Sink.held g.S.Out.Sink.faults c.args.conf.now c.args.opened.sources.items c.args.opened.sinks.items c.args.names.now c.requires.named old (g.S.Site.seen c.args.site.now) out
    back.0 (g.S.Site.seen c.back_all.new.site) back.1 back.2
