use Rattle.std.proofs.Common.{◌≡◌, ℕ, length, get_or, [], List, arith, refl, subst}
use Rattle.std.proofs.lemmas.List.{nil_from_length}
use Rattle.site_openings.specs.Sinks.{sink_held, sink_faults, sink_openings, sink_out}
use Rattle.site_openings.proofs.OpenLemmas.{back_none, back_next, back_all, next_is_out}
use Rattle.site_openings.proofs.SinkLemmas.{SinksBackSoFar, comes, rest_more}
use Rattle.site_openings.proofs.sinks.back_sinks.Goals as goal

pub loop-sink-init : goal.loop-sink-init
loop-sink-init g c = record {
  so_far = record {
    back = back_none sink_held sink_faults sink_openings sink_out g.S.Out.Sink.held g.S.Out.Sink.faults c.args.names.now c.args.sinks.items (g.S.Site.seen c.args.site.now).sink c.requires.lengths;
    rest = record { texts = refl; places = refl; say = refl };
  };
  short = omega (arith, c.args.sinks.ok, c.requires.lengths);
}

pub loop-sink-preserved : goal.loop-sink-preserved
loop-sink-preserved g c =
    let items = rw c.in-Some.is at c.pop.ensures.items in
    let at : c.len.result ≡ length c.pop.new.self.items = omega (arith, c.pop.new.self.ok, c.len.ensures) in
    let len = rw c.in-Some.is at c.pop.ensures.cases in
    let before = subst (λ (l : List (g.row.S-Out.Denot)). SinksBackSoFar g.S.Out.Sink.held g.S.Out.Sink.faults c.args.names.now c.args.sinks.items l (g.S.Site.seen c.args.site.now) (g.S.Site.seen c.loop-sink.site)) items c.loop-sink.invariant.so_far in
    record {
      so_far = record {
        back = back_next sink_held sink_faults sink_openings sink_out g.S.Out.Sink.held g.S.Out.Sink.faults c.args.names.now c.args.sinks.items c.pop.new.self.items c.in-Some.sink c.index-names-len.result
            (g.S.Site.seen c.args.site.now).sink (g.S.Site.seen c.loop-sink.site).sink (g.S.Site.seen c.back_sink.new.site).sink (omega (arith, c.pop.new.self.ok, len, c.loop-sink.invariant.short))
            (subst (λ (n : ℕ). c.index-names-len.result ≡ get_or c.args.names.now n c.index-names-len.result) at c.index-names-len.is) before.back
            (comes g.S.Out.Sink.held g.S.Out.Sink.faults ((g.S.Site.seen c.loop-sink.site).sink c.index-names-len.result) ((g.S.Site.seen c.back_sink.new.site).sink c.index-names-len.result) c.in-Some.sink c.back_sink.ensures.back) c.back_sink.ensures.others.others;
        rest = rest_more g.S.Out.Sink.held g.S.Out.Sink.faults c.index-names-len.result (g.S.Site.seen c.args.site.now) (g.S.Site.seen c.loop-sink.site) (g.S.Site.seen c.back_sink.new.site) before.rest c.back_sink.ensures.others;
      };
      short = omega (arith, len, c.loop-sink.invariant.short);
    }

pub returns : goal.returns
returns g c =
    let len = rw c.in_default.is at c.pop.ensures.cases in
    let none : c.loop-sink.sinks.items ≡ [] = nil_from_length c.loop-sink.sinks.items (omega (arith, c.loop-sink.sinks.ok, len.0)) in
    let done = subst (λ (l : List (g.row.S-Out.Denot)). SinksBackSoFar g.S.Out.Sink.held g.S.Out.Sink.faults c.args.names.now c.args.sinks.items l (g.S.Site.seen c.args.site.now) (g.S.Site.seen c.loop-sink.site)) none c.loop-sink.invariant.so_far in
    record {
      all = back_all sink_held sink_faults sink_openings sink_out g.S.Out.Sink.held g.S.Out.Sink.faults c.args.names.now c.args.sinks.items (g.S.Site.seen c.args.site.now).sink (g.S.Site.seen c.loop-sink.site).sink done.back;
      rest = done.rest;
    }

pub back_sink-requires-clause-out : goal.back_sink-requires-clause-out
back_sink-requires-clause-out g c κs within =
    let items = rw c.in-Some.is at c.pop.ensures.items in
    let at : c.len.result ≡ length c.pop.new.self.items = omega (arith, c.pop.new.self.ok, c.len.ensures) in
    let len = rw c.in-Some.is at c.pop.ensures.cases in
    let before = subst (λ (l : List (g.row.S-Out.Denot)). SinksBackSoFar g.S.Out.Sink.held g.S.Out.Sink.faults c.args.names.now c.args.sinks.items l (g.S.Site.seen c.args.site.now) (g.S.Site.seen c.loop-sink.site)) items c.loop-sink.invariant.so_far in
    next_is_out sink_held sink_faults sink_openings sink_out g.S.Out.Sink.held g.S.Out.Sink.faults c.args.names.now c.args.sinks.items c.pop.new.self.items c.in-Some.sink c.index-names-len.result
    (g.S.Site.seen c.args.site.now).sink (g.S.Site.seen c.loop-sink.site).sink (omega (arith, c.pop.new.self.ok, len, c.loop-sink.invariant.short))
    (subst (λ (n : ℕ). c.index-names-len.result ≡ get_or c.args.names.now n c.index-names-len.result) at c.index-names-len.is) before.back (c.requires.out c.index-names-len.result)
