use Rattle.std.proofs.Common.{ℕ, [], List, ap, sym, subst, ◌∙◌, length, arith}
use Rattle.std.proofs.lemmas.List.{take_all, length-take-le}
use Rattle.site_openings.specs.Sinks.{SinksOut}
use Rattle.site_openings.proofs.SinkLemmas.{none_sinks, open_ok, same_sinks, sinks_long, sinks_out, stopped_sinks}
use Rattle.site_openings.proofs.sinks.open_sinks.Goals as goal

pub loop-i-init : goal.loop-i-init
loop-i-init g c =
    subst (λ (l : List (g.row.S-Out.Denot)). SinksOut g.S.Out.Sink.held g.S.Out.Sink.faults [] l (g.S.Site.seen c.args.site.now) (g.S.Site.seen c.args.site.now)) (sym c.new-sinks.ensures.items) (none_sinks g.S.Out.Sink.held g.S.Out.Sink.faults (g.S.Site.seen c.args.site.now))

pub loop-i-preserved : goal.loop-i-preserved
loop-i-preserved g c =
    let seen = g.S.Site.seen in
    open_ok g.S.Out.Sink.held g.S.Out.Sink.faults c.args.names.now c.loop-i.i c.index-names-i.result c.loop-i.sinks.items c.open_next.new.sinks.items (seen c.args.site.now) (seen c.loop-i.site) (seen c.open_next.new.site) c.loop-i-test.true c.index-names-i.is c.requires c.loop-i.invariant c.open_next.ensures.others c.in_default.ensures.opens

pub returns-clause-ok : goal.returns-clause-ok
returns-clause-ok g c =
    subst (λ (l : List (List ℕ)). SinksOut g.S.Out.Sink.held g.S.Out.Sink.faults l c.loop-i.sinks.items (g.S.Site.seen c.args.site.now) (g.S.Site.seen c.loop-i.site)) (take_all c.loop-i.i c.args.names.now c.loop-i-test.false) c.loop-i.invariant

pub returns-in-Err-clause-err : goal.returns-in-Err-clause-err
returns-in-Err-clause-err g c =
    let seen = g.S.Site.seen in
    stopped_sinks g.S.Out.Sink.held g.S.Out.Sink.faults c.args.names.now c.loop-i.i c.index-names-i.result c.loop-i.sinks.items c.open_next.new.sinks.items (seen c.args.site.now) (seen c.loop-i.site) (seen c.open_next.new.site) c.loop-i-test.true c.index-names-i.is c.requires c.loop-i.invariant c.open_next.ensures.others c.in-Err.stopped (seen c.back_sinks.new.site) c.in-Err.ensures.opens c.back_sinks.ensures

pub back_sinks-requires-clause-lengths : goal.back_sinks-requires-clause-lengths
back_sinks-requires-clause-lengths g c κs within =
    let seen = g.S.Site.seen in
    let same = same_sinks g.S.Out.Sink.held g.S.Out.Sink.faults c.args.names.now c.loop-i.i c.index-names-i.result c.loop-i.sinks.items c.open_next.new.sinks.items (seen c.args.site.now) (seen c.loop-i.site) (seen c.open_next.new.site) c.loop-i-test.true c.index-names-i.is c.requires c.loop-i.invariant c.open_next.ensures.others c.in-Err.stopped c.in-Err.ensures.opens in
    let number = sinks_long g.S.Out.Sink.held g.S.Out.Sink.faults c.args.names.now c.loop-i.i c.index-names-i.result c.loop-i.sinks.items c.open_next.new.sinks.items (seen c.args.site.now) (seen c.loop-i.site) (seen c.open_next.new.site) c.loop-i-test.true c.index-names-i.is c.requires c.loop-i.invariant c.open_next.ensures.others in
    ap length same ∙ (sym number ∙ sym (length-take-le c.loop-i.i c.args.names.now (omega (arith, c.loop-i-test.true))))

pub back_sinks-requires-clause-out : goal.back_sinks-requires-clause-out
back_sinks-requires-clause-out g c κs within =
    let seen = g.S.Site.seen in
    λ p. sinks_out g.S.Out.Sink.held g.S.Out.Sink.faults c.args.names.now c.loop-i.i c.index-names-i.result c.loop-i.sinks.items c.open_next.new.sinks.items (seen c.args.site.now) (seen c.loop-i.site) (seen c.open_next.new.site) c.loop-i-test.true c.index-names-i.is c.requires c.loop-i.invariant c.open_next.ensures.others c.in-Err.stopped c.in-Err.ensures.opens p
