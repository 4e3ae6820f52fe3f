use Rattle.collector_top.proofs.CallLemmas.{source_refused, source_wanting, sink_refused_after, sink_wanting, came_to_run}
use Rattle.collector_top.proofs.direct.run_named.Goals as goal

pub returns-in-Err-Failed-clause-refused : goal.returns-in-Err-Failed-clause-refused
returns-in-Err-Failed-clause-refused g c =
    let opened = rw c.in-Err-Failed.field-0-is at c.in-Err-Failed.ensures.opened in
    source_refused g.S.Src.Source.left g.S.Src.Source.faults c.args.conf.now.spec.place c.args.out.now (g.S.Site.seen c.args.site.now) (g.S.Site.seen c.open_source.new.self) c.in-Err-Failed.ensures.others opened

pub returns-in-Err-NoMemory-clause-refused : goal.returns-in-Err-NoMemory-clause-refused
returns-in-Err-NoMemory-clause-refused g c =
    let opened = rw c.in-Err-NoMemory.field-0-is at c.in-Err-NoMemory.ensures.opened in
    source_wanting g.S.Src.Source.left g.S.Src.Source.faults c.args.conf.now.spec.place c.args.out.now (g.S.Site.seen c.args.site.now) (g.S.Site.seen c.open_source.new.self) c.in-Err-NoMemory.ensures.others opened

pub returns-in-Err-Failed-open_sink-clause-refused : goal.returns-in-Err-Failed-open_sink-clause-refused
returns-in-Err-Failed-open_sink-clause-refused g c =
    let refused = rw c.in-Err-Failed-open_sink.field-0-is at c.in-Err-Failed-open_sink.ensures.opened in
    sink_refused_after g.S.Src.Source.left g.S.Src.Source.faults c.args.conf.now.spec.place c.args.out.now (g.S.Site.seen c.args.site.now) (g.S.Site.seen c.open_source.new.self) (g.S.Site.seen c.open_sink.new.self) (g.S.Site.seen c.back_source.new.self) c.in-Ok.source
    c.in-Ok.ensures.others c.in-Ok.ensures.opened c.in-Err-Failed-open_sink.ensures.others refused c.back_source.ensures.others c.back_source.ensures.back

pub returns-in-Err-NoMemory-open_sink-clause-refused : goal.returns-in-Err-NoMemory-open_sink-clause-refused
returns-in-Err-NoMemory-open_sink-clause-refused g c =
    let refused = rw c.in-Err-NoMemory-open_sink.field-0-is at c.in-Err-NoMemory-open_sink.ensures.opened in
    sink_wanting g.S.Src.Source.left g.S.Src.Source.faults c.args.conf.now.spec.place c.args.out.now (g.S.Site.seen c.args.site.now) (g.S.Site.seen c.open_source.new.self) (g.S.Site.seen c.open_sink.new.self)
    (g.S.Site.seen c.back_source-in-Err-NoMemory-open_sink.new.self) c.in-Ok.source c.in-Ok.ensures.others c.in-Ok.ensures.opened c.in-Err-NoMemory-open_sink.ensures.others refused c.back_source-in-Err-NoMemory-open_sink.ensures.others
    c.back_source-in-Err-NoMemory-open_sink.ensures.back

pub returns-clause-ran : goal.returns-clause-ran
returns-clause-ran g c =
    came_to_run g.S.Src.Source.left g.S.Src.Source.faults g.S.Out.Sink.held g.S.Out.Sink.faults c.args.conf.now.spec.place c.args.out.now (g.S.Site.seen c.args.site.now) (g.S.Site.seen c.open_source.new.self) (g.S.Site.seen c.open_sink.new.self)
    (g.S.Site.seen c.back_sink.new.self) (g.S.Site.seen c.back_source-2.new.self) c.in-Ok.source c.file-source.result.1 c.in-Ok-open_sink.sink c.file-source.new.sink _ c.file-source.result.0 c.in-Ok.ensures.others c.in-Ok.ensures.opened
    c.in-Ok-open_sink.ensures.others c.in-Ok-open_sink.ensures.opened c.file-source.ensures c.back_sink.ensures.others c.back_sink.ensures.back c.back_source-2.ensures.others c.back_source-2.ensures.back
