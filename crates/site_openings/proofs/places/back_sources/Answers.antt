use Rattle.std.proofs.Common.{◌≡◌, ℕ, length, get_or, [], List, arith, ap, refl, subst, sym, ◌∙◌}
use Rattle.std.proofs.lemmas.List.{nil_from_length, length-map, get_or-map}
use Rattle.config_spec.specs.declared.conf.InputConf.{InputConf}
use Rattle.site_openings.specs.Places.{places_of, place_left, place_faults, place_openings, place_out}
use Rattle.site_openings.proofs.OpenLemmas.{back_none, back_next, back_all, next_is_out}
use Rattle.site_openings.proofs.PlaceLemmas.{SourcesBackSoFar, comes, rest_more}
use Rattle.site_openings.proofs.places.back_sources.Goals as goal

pub loop-source-init : goal.loop-source-init
loop-source-init g c = record {
  so_far = record {
    back = back_none place_left place_faults place_openings place_out g.S.Src.Source.left g.S.Src.Source.faults (places_of c.args.confs.now) c.args.sources.items (g.S.Site.seen c.args.site.now).place (c.requires.lengths ∙ sym (length-map c.args.confs.now (λ (x : InputConf). x.spec.place)));
    rest = record { texts = refl; sinks = refl; say = refl };
  };
  short = omega (arith, c.args.sources.ok, c.requires.lengths);
}

pub loop-source-preserved : goal.loop-source-preserved
loop-source-preserved g c =
    let items = rw c.in-Some.is at c.pop.ensures.items in
    let at : c.len.result ≡ length c.pop.new.self.items = omega (arith, c.pop.new.self.ok, c.len.ensures) in
    let len = rw c.in-Some.is at c.pop.ensures.cases in
    let before = subst (λ (l : List (g.row.S-Src.Denot)). SourcesBackSoFar g.S.Src.Source.left g.S.Src.Source.faults (places_of c.args.confs.now) c.args.sources.items l (g.S.Site.seen c.args.site.now) (g.S.Site.seen c.loop-source.site)) items c.loop-source.invariant.so_far in
    record {
      so_far = record {
        back = back_next place_left place_faults place_openings place_out g.S.Src.Source.left g.S.Src.Source.faults (places_of c.args.confs.now) c.args.sources.items c.pop.new.self.items c.in-Some.source c.index-confs-len.result.spec.place
            (g.S.Site.seen c.args.site.now).place (g.S.Site.seen c.loop-source.site).place (g.S.Site.seen c.back_source.new.site).place (let e = length-map c.args.confs.now (λ (x : InputConf). x.spec.place) in omega (arith, c.pop.new.self.ok, len, c.loop-source.invariant.short, e))
            (sym (get_or-map (λ (x : InputConf). x.spec.place) c.args.confs.now (length c.pop.new.self.items) c.index-confs-len.result c.index-confs-len.result.spec.place (omega (arith, c.pop.new.self.ok, len, c.loop-source.invariant.short)) ∙ ap (λ (x : InputConf). x.spec.place) (sym (subst (λ (n : ℕ). c.index-confs-len.result ≡ get_or c.args.confs.now n c.index-confs-len.result) at c.index-confs-len.is)))) before.back
            (comes g.S.Src.Source.left g.S.Src.Source.faults ((g.S.Site.seen c.loop-source.site).place c.index-confs-len.result.spec.place) ((g.S.Site.seen c.back_source.new.site).place c.index-confs-len.result.spec.place) c.in-Some.source c.back_source.ensures.back) c.back_source.ensures.others.others;
        rest = rest_more g.S.Src.Source.left g.S.Src.Source.faults c.index-confs-len.result.spec.place (g.S.Site.seen c.args.site.now) (g.S.Site.seen c.loop-source.site) (g.S.Site.seen c.back_source.new.site) before.rest c.back_source.ensures.others;
      };
      short = omega (arith, len, c.loop-source.invariant.short);
    }

pub returns : goal.returns
returns g c =
    let len = rw c.in_default.is at c.pop.ensures.cases in
    let none : c.loop-source.sources.items ≡ [] = nil_from_length c.loop-source.sources.items (omega (arith, c.loop-source.sources.ok, len.0)) in
    let done = subst (λ (l : List (g.row.S-Src.Denot)). SourcesBackSoFar g.S.Src.Source.left g.S.Src.Source.faults (places_of c.args.confs.now) c.args.sources.items l (g.S.Site.seen c.args.site.now) (g.S.Site.seen c.loop-source.site)) none c.loop-source.invariant.so_far in
    record {
      all = back_all place_left place_faults place_openings place_out g.S.Src.Source.left g.S.Src.Source.faults (places_of c.args.confs.now) c.args.sources.items (g.S.Site.seen c.args.site.now).place (g.S.Site.seen c.loop-source.site).place done.back;
      rest = done.rest;
    }

pub back_source-requires-clause-out : goal.back_source-requires-clause-out
back_source-requires-clause-out g c κs within =
    let items = rw c.in-Some.is at c.pop.ensures.items in
    let at : c.len.result ≡ length c.pop.new.self.items = omega (arith, c.pop.new.self.ok, c.len.ensures) in
    let len = rw c.in-Some.is at c.pop.ensures.cases in
    let before = subst (λ (l : List (g.row.S-Src.Denot)). SourcesBackSoFar g.S.Src.Source.left g.S.Src.Source.faults (places_of c.args.confs.now) c.args.sources.items l (g.S.Site.seen c.args.site.now) (g.S.Site.seen c.loop-source.site)) items c.loop-source.invariant.so_far in
    next_is_out place_left place_faults place_openings place_out g.S.Src.Source.left g.S.Src.Source.faults (places_of c.args.confs.now) c.args.sources.items c.pop.new.self.items c.in-Some.source c.index-confs-len.result.spec.place
    (g.S.Site.seen c.args.site.now).place (g.S.Site.seen c.loop-source.site).place (let e = length-map c.args.confs.now (λ (x : InputConf). x.spec.place) in omega (arith, c.pop.new.self.ok, len, c.loop-source.invariant.short, e))
    (sym (get_or-map (λ (x : InputConf). x.spec.place) c.args.confs.now (length c.pop.new.self.items) c.index-confs-len.result c.index-confs-len.result.spec.place (omega (arith, c.pop.new.self.ok, len, c.loop-source.invariant.short)) ∙ ap (λ (x : InputConf). x.spec.place) (sym (subst (λ (n : ℕ). c.index-confs-len.result ≡ get_or c.args.confs.now n c.index-confs-len.result) at c.index-confs-len.is)))) before.back (c.requires.out c.index-confs-len.result.spec.place)
