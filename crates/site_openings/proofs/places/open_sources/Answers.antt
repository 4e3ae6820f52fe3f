use Rattle.std.proofs.Common.{◌≤◌, ℕ, [], List, ap, sym, subst, ◌∙◌, length, arith}
use Rattle.std.proofs.lemmas.List.{take_all, take-map, length-map, length-take-le, get_or-map}
use Rattle.call_spec.specs.Names.{times}
use Rattle.config_spec.specs.declared.conf.InputConf.{InputConf}
use Rattle.site_openings.specs.Places.{places_of, SourcesOut, SourcesBack}
use Rattle.site_openings.proofs.PlaceLemmas.{none_sources, open_ok, same_sources, sources_long, sources_out, stopped_sources}
use Rattle.site_openings.proofs.places.open_sources.Goals as goal

pub loop-i-init : goal.loop-i-init
loop-i-init g c =
    subst (λ (l : List (g.row.S-Src.Denot)). SourcesOut g.S.Src.Source.left g.S.Src.Source.faults [] l (g.S.Site.seen c.args.site.now) (g.S.Site.seen c.args.site.now)) (sym c.new-sources.ensures.items) (none_sources g.S.Src.Source.left g.S.Src.Source.faults (g.S.Site.seen c.args.site.now))

pub loop-i-preserved : goal.loop-i-preserved
loop-i-preserved g c =
    let seen = g.S.Site.seen in
    open_ok g.S.Src.Source.left g.S.Src.Source.faults (places_of c.args.confs.now) c.loop-i.i c.index-confs-i.result.spec.place c.loop-i.sources.items c.open_next.new.sources.items (seen c.args.site.now) (seen c.loop-i.site) (seen c.open_next.new.site) (let e = length-map c.args.confs.now (λ (x : InputConf). x.spec.place) in omega (arith, c.loop-i-test.true, e)) (sym (get_or-map (λ (x : InputConf). x.spec.place) c.args.confs.now c.loop-i.i c.index-confs-i.result c.index-confs-i.result.spec.place c.loop-i-test.true ∙ ap (λ (x : InputConf). x.spec.place) (sym c.index-confs-i.is))) c.loop-i.invariant c.open_next.ensures.others c.in_default.ensures.opens

pub returns-clause-ok : goal.returns-clause-ok
returns-clause-ok g c =
    subst (λ (l : List (List ℕ)). SourcesOut g.S.Src.Source.left g.S.Src.Source.faults l c.loop-i.sources.items (g.S.Site.seen c.args.site.now) (g.S.Site.seen c.loop-i.site)) (take_all c.loop-i.i (places_of c.args.confs.now) (let e = length-map c.args.confs.now (λ (x : InputConf). x.spec.place) in let t = c.loop-i-test.false in omega (arith, t, e))) c.loop-i.invariant

pub returns-in-Err-clause-err : goal.returns-in-Err-clause-err
returns-in-Err-clause-err g c =
    let seen = g.S.Site.seen in
    stopped_sources g.S.Src.Source.left g.S.Src.Source.faults (places_of c.args.confs.now) c.loop-i.i c.index-confs-i.result.spec.place c.loop-i.sources.items c.open_next.new.sources.items (seen c.args.site.now) (seen c.loop-i.site) (seen c.open_next.new.site) (let e = length-map c.args.confs.now (λ (x : InputConf). x.spec.place) in omega (arith, c.loop-i-test.true, e)) (sym (get_or-map (λ (x : InputConf). x.spec.place) c.args.confs.now c.loop-i.i c.index-confs-i.result c.index-confs-i.result.spec.place c.loop-i-test.true ∙ ap (λ (x : InputConf). x.spec.place) (sym c.index-confs-i.is))) c.loop-i.invariant c.open_next.ensures.others c.in-Err.stopped (seen c.back_sources.new.site) c.in-Err.ensures.opens (subst (λ (l : List (List ℕ)). SourcesBack g.S.Src.Source.left g.S.Src.Source.faults l c.open_next.new.sources.items (seen c.open_next.new.site) (seen c.back_sources.new.site)) (sym (take-map (λ (x : InputConf). x.spec.place) c.loop-i.i c.args.confs.now)) c.back_sources.ensures)

pub back_sources-requires-clause-lengths : goal.back_sources-requires-clause-lengths
back_sources-requires-clause-lengths g c κs within =
    let seen = g.S.Site.seen in
    let same = same_sources g.S.Src.Source.left g.S.Src.Source.faults (places_of c.args.confs.now) c.loop-i.i c.index-confs-i.result.spec.place c.loop-i.sources.items c.open_next.new.sources.items (seen c.args.site.now) (seen c.loop-i.site) (seen c.open_next.new.site) (let e = length-map c.args.confs.now (λ (x : InputConf). x.spec.place) in omega (arith, c.loop-i-test.true, e)) (sym (get_or-map (λ (x : InputConf). x.spec.place) c.args.confs.now c.loop-i.i c.index-confs-i.result c.index-confs-i.result.spec.place c.loop-i-test.true ∙ ap (λ (x : InputConf). x.spec.place) (sym c.index-confs-i.is))) c.loop-i.invariant c.open_next.ensures.others c.in-Err.stopped c.in-Err.ensures.opens in
    let number = sources_long g.S.Src.Source.left g.S.Src.Source.faults (places_of c.args.confs.now) c.loop-i.i c.index-confs-i.result.spec.place c.loop-i.sources.items c.open_next.new.sources.items (seen c.args.site.now) (seen c.loop-i.site) (seen c.open_next.new.site) (let e = length-map c.args.confs.now (λ (x : InputConf). x.spec.place) in omega (arith, c.loop-i-test.true, e)) (sym (get_or-map (λ (x : InputConf). x.spec.place) c.args.confs.now c.loop-i.i c.index-confs-i.result c.index-confs-i.result.spec.place c.loop-i-test.true ∙ ap (λ (x : InputConf). x.spec.place) (sym c.index-confs-i.is))) c.loop-i.invariant c.open_next.ensures.others in
    ap length same ∙ (sym number ∙ sym (length-take-le c.loop-i.i c.args.confs.now (omega (arith, c.loop-i-test.true))))

pub back_sources-requires-clause-out : goal.back_sources-requires-clause-out
back_sources-requires-clause-out g c κs within =
    let seen = g.S.Site.seen in
    λ p. subst (λ (l : List (List ℕ)). times p l ≤ ((seen c.open_next.new.site).place p).out) (take-map (λ (x : InputConf). x.spec.place) c.loop-i.i c.args.confs.now) (sources_out g.S.Src.Source.left g.S.Src.Source.faults (places_of c.args.confs.now) c.loop-i.i c.index-confs-i.result.spec.place c.loop-i.sources.items c.open_next.new.sources.items (seen c.args.site.now) (seen c.loop-i.site) (seen c.open_next.new.site) (let e = length-map c.args.confs.now (λ (x : InputConf). x.spec.place) in omega (arith, c.loop-i-test.true, e)) (sym (get_or-map (λ (x : InputConf). x.spec.place) c.args.confs.now c.loop-i.i c.index-confs-i.result c.index-confs-i.result.spec.place c.loop-i-test.true ∙ ap (λ (x : InputConf). x.spec.place) (sym c.index-confs-i.is))) c.loop-i.invariant c.open_next.ensures.others c.in-Err.stopped c.in-Err.ensures.opens p)
