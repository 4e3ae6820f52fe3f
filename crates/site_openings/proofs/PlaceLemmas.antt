-- Sources go out and come back.
use Rattle.std.proofs.Common.{◌≡◌, inl, inr, ℕ, ◌+◌, ◌≤◌, ◌<◌, Bool, true, false, List, [], ◌∷◌, ◌++◌, length, take, get_or, Option, Some, None, refl, ap, sym, subst, ◌∙◌, arith}
use Rattle.std.specs.Prelude.{IfSome, IsSome, Ok, Err}
use Rattle.arrival_spec.specs.declared.event.Scripted.{Scripted}
use Rattle.site_io.specs.Seen.{Seen, PlaceSeen, SourceGoesOut, SourceComesBack, ChangesPlace}
use Rattle.call_spec.specs.Names.{times}
use Rattle.call_spec.specs.Counts.{PlaceKept}
use Rattle.call_spec.specs.Leaves.{KeepsLeft}
use Rattle.call_spec.proofs.NameLemmas.{zero_or, same_or}
use Rattle.site_openings.specs.declared.stopped.Stopped.{Stopped}
use Rattle.site_openings.specs.declared.stopped.Stopped.TheVariants.{At, Memory}
use Rattle.site_openings.specs.Out.{Kept, GoesOut, ComesBack}
use Rattle.site_openings.specs.Places.{place_left, place_faults, place_openings, place_out, all_left, ChangesPlaces, SourcesOut, SourcesBack, OpensSource, SourcesStopped}
use Rattle.site_openings.proofs.OutLemmas.{none_out, out_more, shows_start, others_same}
use Rattle.site_openings.proofs.OpenLemmas.{BackSoFar, taken_next, number_is, still_out, counts_at, counts_memory}

told_some : {X : Type 0} (o : Option X) (x : X) (P : X → Type 0) → o ≡ Some x → IfSome o P → P x
told_some None x P e h = absurd (cc)
told_some (Some y) x P e h = let same : y ≡ x = cc in subst P same h

kept_of : (n : ℕ) (f : Bool) (x y : PlaceSeen) → PlaceKept n f x y → Kept place_faults place_openings place_out n f x y
kept_of n f x y k = record { out_now = k.out; openings_now = k.openings; faults_now = k.faults; same = k.same }

pub of_kept : (n : ℕ) (f : Bool) (x y : PlaceSeen) → Kept place_faults place_openings place_out n f x y → PlaceKept n f x y
of_kept n f x y k = record { out = k.out_now; openings = k.openings_now; faults = k.faults_now; same = k.same }

module _ {S : Type 0} (left : S → Option (List Scripted)) (faults : S → ℕ) where
  goes : (old new : PlaceSeen) (source : S) → SourceGoesOut old new (left source) (faults source) → GoesOut place_left place_faults place_openings place_out left faults all_left old new source
  goes old new source g = record {
    begins = λ events is. told_some old.left events (λ (e : List Scripted). left source ≡ Some e) is g.told;
    fresh = g.fresh;
    out_now = g.out;
    openings_now = g.openings;
    faults_now = g.no_fault;
  }

  pub comes : (old new : PlaceSeen) (source : S) → SourceComesBack old new (left source) (faults source) → ComesBack place_left place_faults place_openings place_out left faults old new source
  comes old new source c = record { shown = c.shown; out_now = c.out; openings_now = c.openings; later = c.later; rose = c.rose; no_fault = c.no_fault }

  pub none_sources : (old : Seen) → SourcesOut left faults [] [] old old
  none_sources old = record { all = none_out place_left place_faults place_openings place_out left faults all_left old.place; told = λ p t. t; rest = record { texts = refl; sinks = refl; say = refl } }

  -- so far these came back, and nothing else changed
  pub record SourcesBackSoFar (places : List (List ℕ)) (all items : List S) (a b : Seen) : Type 0 where
    pub back : BackSoFar place_left place_faults place_openings place_out left faults places all items a.place b.place
    pub rest : ChangesPlaces a b

  pub rest_more : (place : List ℕ) (a b c : Seen) → ChangesPlaces a b → ChangesPlace place b c → ChangesPlaces a c
  rest_more place a b c r ch = record { texts = ch.texts ∙ r.texts; sinks = ch.sinks ∙ r.sinks; say = ch.say ∙ r.say }

  module _ (places : List (List ℕ)) (i : ℕ) (place : List ℕ) (sources now_sources : List S) (a b c : Seen) (lt : i < length places) (is : place ≡ get_or places i place)
      (o : SourcesOut left faults (take i places) sources a b) (ch : ChangesPlace place b c) where
    pub open_ok : OpensSource left faults i sources now_sources (b.place place) (c.place place) (Ok tt) → SourcesOut left faults (take (i + 1) places) now_sources a c
    open_ok n =
        subst (λ (l : List (List ℕ)). SourcesOut left faults l now_sources a c) (sym (taken_next places i place lt is))
        (subst (λ (l : List S). SourcesOut left faults (take i places ++ place ∷ []) l a c) (sym n.2)
        (record {
          all = out_more place_left place_faults place_openings place_out left faults all_left (take i places) sources place n.0 a.place b.place c.place
              (λ t. elim (zero_or (times place (take i places))) [
                | inl none ↦ none
                | inr some ↦ (
                    let z = n.1.was_in (o.told place t) in
                    let y = (o.all.counts place).out_now in
                    absurd (omega arith))
              ])
              o.all (goes (b.place place) (c.place place) n.0 n.1) ch.others;
          told = λ p t. elim (same_or p place) [
            | inl same ↦ subst (λ q. IsSome (c.place q).left) (sym same.1) (n.1.still_told (subst (λ q. IsSome (b.place q).left) same.1 (o.told p t)))
            | inr differ ↦ subst (λ (x : PlaceSeen). IsSome x.left) (sym (ch.others p differ.1)) (o.told p t)
          ];
          rest = rest_more place a b c o.rest ch;
        }))

    pub same_sources : (stopped : Stopped) → OpensSource left faults i sources now_sources (b.place place) (c.place place) (Err stopped) → now_sources ≡ sources
    same_sources Memory n = n.0
    same_sources (At j) n = n.1

    pub out_same : (stopped : Stopped) → OpensSource left faults i sources now_sources (b.place place) (c.place place) (Err stopped) → (c.place place).out ≡ (b.place place).out
    out_same Memory n = n.1.2.out
    out_same (At j) n = n.2.out

    pub sources_long : i ≡ length sources
    sources_long = number_is place_left place_faults place_openings place_out left faults all_left places i place sources a.place b.place c.place lt is o.all ch.others

    pub sources_out : (stopped : Stopped) → OpensSource left faults i sources now_sources (b.place place) (c.place place) (Err stopped) → (p : List ℕ) → times p (take i places) ≤ (c.place p).out
    sources_out stopped n p = still_out place_left place_faults place_openings place_out left faults all_left places i place sources a.place b.place c.place lt is o.all ch.others (out_same stopped n) p

    middle_left : KeepsLeft (b.place place) (c.place place) → (p : List ℕ) → KeepsLeft (b.place p) (c.place p)
    middle_left keeps p events e = elim (same_or p place) [
      | inl same ↦ subst (λ q. KeepsLeft (b.place q) (c.place q)) (sym same.1) keeps events e
      | inr differ ↦ ap place_left (ch.others p differ.1) ∙ e
    ]

    module _ (d : Seen) (n : ℕ) (f : Bool) (kept : PlaceKept n f (b.place place) (c.place place)) (keeps : KeepsLeft (b.place place) (c.place place)) (back : SourcesBack left faults (take i places) sources c d) where
      lefts : (p : List ℕ) → KeepsLeft (a.place p) (d.place p)
      lefts p events e = elim (zero_or (times p (take i places))) [
        | inl none ↦ (
            let same = others_same place_left place_faults place_openings place_out left faults all_left (take i places) sources place n f a.place b.place c.place d.place o.all (kept_of n f (b.place place) (c.place place) kept) ch.others back.all p none in
            ap place_left same.0 ∙ middle_left keeps p events (ap place_left same.1 ∙ e))
        | inr some ↦ shows_start place_left place_faults place_openings place_out left faults all_left (take i places) sources place n f a.place b.place c.place d.place o.all (kept_of n f (b.place place) (c.place place) kept) ch.others back.all p some events e
      ]

      rest_all : ChangesPlaces a d
      rest_all = record { texts = back.rest.texts ∙ (ch.texts ∙ o.rest.texts); sinks = back.rest.sinks ∙ (ch.sinks ∙ o.rest.sinks); say = back.rest.say ∙ (ch.say ∙ o.rest.say) }

    pub stopped_sources : (stopped : Stopped) (d : Seen) → OpensSource left faults i sources now_sources (b.place place) (c.place place) (Err stopped) → SourcesBack left faults (take i places) now_sources c d
        → (n : ℕ) × SourcesStopped n places stopped a d
    stopped_sources (At j) d n r =
        let back = subst (λ (l : List S). SourcesBack left faults (take i places) l c d) n.1 r in
        subst (λ k. (n : ℕ) × SourcesStopped n places (At k) a d) (sym n.0) (
          i + 1,
          record {
            tried = (refl, lt);
            counts = λ p. of_kept _ _ (a.place p) (d.place p) (counts_at place_left place_faults place_openings place_out left faults all_left places i place sources a.place b.place c.place lt is o.all ch.others d.place (kept_of 1 true (b.place place) (c.place place) n.2) back.all p);
            left = lefts d 1 true n.2 n.3 back;
            rest = rest_all d 1 true n.2 n.3 back;
          },
        )
    stopped_sources Memory d n r =
        let back = subst (λ (l : List S). SourcesBack left faults (take i places) l c d) n.0 r in (
          i + n.1.0,
          record {
            tried = omega (arith, n.1.1);
            counts = λ p. of_kept _ _ (a.place p) (d.place p) (counts_memory place_left place_faults place_openings place_out left faults all_left places i place sources a.place b.place c.place lt is o.all ch.others d.place n.1.0 n.1.1 (kept_of n.1.0 false (b.place place) (c.place place) n.1.2) back.all p);
            left = lefts d n.1.0 false n.1.2 n.1.3 back;
            rest = rest_all d n.1.0 false n.1.2 n.1.3 back;
          },
        )
