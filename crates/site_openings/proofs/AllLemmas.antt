-- What comes of a call whose run was refused.
use Rattle.std.proofs.Common.{◌≡◌, inl, inr, ℕ, zero, suc, ◌+◌, ◌-◌, ◌<◌, ◌≤◌, false, List, [], ◌∷◌, length, take, drop, map, Option, Some, None, refl, ap, sym, subst, ◌∙◌, arith, add-zero, cond}
use Rattle.std.specs.Prelude.{bytes_eq}
use Rattle.std.proofs.lemmas.List.{length-map, length-take-le, take_all}
use Rattle.arrival_spec.specs.declared.event.Scripted.{Scripted}
use Rattle.config_spec.specs.declared.conf.Conf.{Conf}
use Rattle.config_spec.specs.declared.conf.InputConf.{InputConf}
use Rattle.text_spec.specs.declared.element.Element.{Element}
use Rattle.site_io.specs.Seen.{Seen, TextSeen, PlaceSeen, SinkSeen}
use Rattle.call_spec.specs.Names.{times, has}
use Rattle.call_spec.specs.Counts.{TextKept, PlaceKept, SinkKept}
use Rattle.call_spec.specs.Came.{Party, Parties, Refusal}
use Rattle.call_spec.specs.Came.Refusal.{NoSource, NoMemory}
use Rattle.call_spec.specs.Came.Came.{Refused}
use Rattle.call_spec.specs.Plan.{described_parties, input_party}
use Rattle.call_spec.specs.Plan.Plan.{Described}
use Rattle.call_spec.specs.Leaves.{Comes, KeepsLeft, KeepsHeld, IsRefusal, at_of, log_and, sink_names, failed_text, refused_place, refused_sink, emptied_sinks}
use Rattle.call_spec.proofs.NameLemmas.{zero_or, none_after}
use Rattle.site_openings.specs.declared.stopped.Stopped.{Stopped}
use Rattle.site_openings.specs.declared.stopped.Stopped.TheVariants.{At, Memory}
use Rattle.site_openings.specs.All.{sink_refusal, sink_stopped, source_stopped, AreOut, IsRefused}
use Rattle.call_spec.proofs.PairLemmas.{same_length}
use Rattle.site_openings.specs.Out.{Begins, Kept}
use Rattle.site_openings.specs.Places.{places_of, place_left, place_faults, place_openings, place_out, all_left, SourcesOut, SourcesBack, SourcesStopped}
use Rattle.site_openings.specs.Sinks.{nothing_held, sink_faults, sink_held, sink_openings, sink_out, SinksBack, SinksOut, SinksStopped}
use Rattle.site_openings.proofs.OutLemmas.{refused_counts, shows_start, others_same, untried}
use Rattle.site_openings.proofs.OpenLemmas.{no_mark, no_count}
use Rattle.site_openings.proofs.PlaceLemmas.{of_kept}
use Rattle.site_openings.proofs.SinkLemmas.{unused_sinks}

places_are : (inputs : List InputConf) → places_of inputs ≡ at_of (map input_party inputs)
places_are [] = refl
places_are (c ∷ inputs) = ap (λ l. c.spec.place ∷ l) (places_are inputs)

unread : (x y : TextSeen) → y ≡ x → TextKept false x y
unread x y e = record { octets = ap (λ (t : TextSeen). t.octets) e; faults = ap (λ (t : TextSeen). t.faults) e }

unsunk : (x y : SinkSeen) → y ≡ x → SinkKept 0 false x y
unsunk x y e = subst (λ (s : SinkSeen). SinkKept 0 false x s) (sym e) (record { out = refl; openings = sym (none_after x.openings); faults = refl; same = λ _. refl })

-- one sink more was tried than was opened
one_less : (i : ℕ) → (i + 1) - 1 ≡ i
one_less i = omega arith

-- whose sink it was
record SinkIs (parties : Parties) (names : List (List ℕ)) (i : ℕ) (refusal : Refusal) : Type 0 where
  is : IsRefusal parties refusal (length parties.inputs) (i + 1)
  refused : refused_sink parties refusal ≡ take 1 (drop i names)
  emptied : emptied_sinks parties refusal (i + 1) ≡ take i names
  no_place : refused_place parties refusal ≡ []
  no_text : failed_text refusal ≡ []

sink_is : (ps : List Party) (ss : List (List ℕ)) (os : List Party) (log : Option (List ℕ)) (i : ℕ) → i < length (log_and log (at_of os)) → SinkIs (record { inputs = ps; log = log; stages = ss; outputs = os }) (log_and log (at_of os)) i (sink_refusal log i)
sink_is ps ss os None j lt =
    let long = length-map os (λ (p : Party). p.at) in
    let t = length-take-le (j + 1) (at_of os) (omega (arith, lt)) in
    record {
      is = (refl, omega (arith, lt, long), sym t);
      refused = refl;
      emptied = ap (λ n. take n (at_of os)) (one_less j);
      no_place = refl;
      no_text = refl;
    }
sink_is ps ss os (Some path) zero lt = record { is = (refl, refl, refl); refused = refl; emptied = refl; no_place = refl; no_text = refl }
sink_is ps ss os (Some path) (suc j) lt =
    let long = length-map os (λ (p : Party). p.at) in
    let t = length-take-le (j + 1) (at_of os) (omega (arith, lt)) in
    record {
      is = (refl, omega (arith, lt, long), omega (arith, t));
      refused = refl;
      emptied = ap (λ n. take n (path ∷ at_of os)) (one_less (suc j));
      no_place = refl;
      no_text = refl;
    }

module _ {S : Type 0} (left : S → Option (List Scripted)) (faults : S → ℕ) (conf : Conf) where
  abbrev pub parties : Parties
  parties = described_parties conf

  inputs_long : length (places_of conf.inputs) ≡ length parties.inputs
  inputs_long = ap length (places_are conf.inputs) ∙ length-map parties.inputs (λ (p : Party). p.at)

  pub long_sources : (sources : List S) (a b : Seen) → SourcesOut left faults (places_of conf.inputs) sources a b → length sources ≡ length conf.inputs
  long_sources sources a b o = sym (same_length (Begins place_left place_faults place_openings place_out left faults all_left a.place) 0 (places_of conf.inputs) sources o.all.each) ∙ length-map conf.inputs (λ (x : InputConf). x.spec.place)

  -- a source was refused
  no_source : (n i : ℕ) (a b : Seen) → SourcesStopped n (places_of conf.inputs) (At i) a b → IsRefused left faults conf (NoSource i) a b
  no_source n i a b s = (
    n,
    0,
    (λ rows. record {
      texts = λ p. unread (a.text p) (b.text p) (ap (λ (f : List ℕ → TextSeen). f p) s.rest.texts);
      places = λ p. subst (λ (l : List (List ℕ)). PlaceKept (times p (take n l)) (has p (take 1 (drop i l))) (a.place p) (b.place p)) (places_are conf.inputs) (s.counts p);
      sinks = λ p. unsunk (a.sink p) (b.sink p) (ap (λ (f : List ℕ → SinkSeen). f p) s.rest.sinks);
      leaves = ((s.tried.0, omega (arith, s.tried.1, inputs_long), refl), s.left, λ p. ap (λ (f : List ℕ → SinkSeen). (f p).held) s.rest.sinks);
    }),
    s.rest.say,
  )

  -- memory was wanted for a source
  no_memory_first : (n : ℕ) (a b : Seen) → SourcesStopped n (places_of conf.inputs) Memory a b → IsRefused left faults conf NoMemory a b
  no_memory_first n a b s = (
    n,
    0,
    (λ rows. record {
      texts = λ p. unread (a.text p) (b.text p) (ap (λ (f : List ℕ → TextSeen). f p) s.rest.texts);
      places = λ p. subst (λ (l : List (List ℕ)). PlaceKept (times p (take n l)) false (a.place p) (b.place p)) (places_are conf.inputs) (s.counts p);
      sinks = λ p. unsunk (a.sink p) (b.sink p) (ap (λ (f : List ℕ → SinkSeen). f p) s.rest.sinks);
      leaves = ((omega (arith, s.tried, inputs_long), omega arith, inr refl), s.left, λ p. ap (λ (f : List ℕ → SinkSeen). (f p).held) s.rest.sinks);
    }),
    s.rest.say,
  )

  pub any_source : (n : ℕ) (stopped : Stopped) (a b : Seen) → SourcesStopped n (places_of conf.inputs) stopped a b → IsRefused left faults conf (source_stopped stopped) a b
  any_source n (At i) a b s = no_source n i a b s
  any_source n Memory a b s = no_memory_first n a b s

  -- the sources went out, sinks were refused, and the sources came back
  module _ (sources : List S) (names : List (List ℕ)) (a b c d : Seen) (o : SourcesOut left faults (places_of conf.inputs) sources a b) (r : SourcesBack left faults (places_of conf.inputs) sources c d) (same : c.place ≡ b.place) where
    same_at : (p : List ℕ) → c.place p ≡ b.place p
    same_at p = ap (λ (f : List ℕ → PlaceSeen). f p) same

    none_tried : Kept place_faults place_openings place_out 0 false (b.place []) (c.place [])
    none_tried = subst (λ (x : PlaceSeen). Kept place_faults place_openings place_out 0 false (b.place []) x) (sym (same_at [])) (untried place_faults place_openings place_out (b.place []))

    places_back : (p : List ℕ) → PlaceKept (times p (take (length parties.inputs) (at_of parties.inputs))) false (a.place p) (d.place p)
    places_back p =
        let all : take (length parties.inputs) (at_of parties.inputs) ≡ places_of conf.inputs = take_all (length parties.inputs) (at_of parties.inputs) (omega (arith, length-map parties.inputs (λ (q : Party). q.at))) ∙ sym (places_are conf.inputs) in
        subst (λ (l : List (List ℕ)). PlaceKept (times p l) false (a.place p) (d.place p)) (sym all)
        (of_kept (times p (places_of conf.inputs)) false (a.place p) (d.place p)
        (subst (λ m. Kept place_faults place_openings place_out m false (a.place p) (d.place p)) (ap (λ k. times p (places_of conf.inputs) + k) (no_count p []) ∙ add-zero (times p (places_of conf.inputs)))
        (subst (λ f. Kept place_faults place_openings place_out (times p (places_of conf.inputs) + cond (bytes_eq p []) 0 0) f (a.place p) (d.place p)) (no_mark p [])
        (refused_counts place_left place_faults place_openings place_out left faults all_left (places_of conf.inputs) sources [] 0 false a.place b.place c.place d.place o.all none_tried (λ q ne. same_at q) r.all p))))

    lefts_back : (p : List ℕ) → KeepsLeft (a.place p) (d.place p)
    lefts_back p events is = elim (zero_or (times p (places_of conf.inputs))) [
      | inl none ↦ (
          let s = others_same place_left place_faults place_openings place_out left faults all_left (places_of conf.inputs) sources [] 0 false a.place b.place c.place d.place o.all none_tried (λ q ne. same_at q) r.all p none in
          ap place_left s.0 ∙ (ap place_left (same_at p) ∙ (ap place_left s.1 ∙ is)))
      | inr some ↦ shows_start place_left place_faults place_openings place_out left faults all_left (places_of conf.inputs) sources [] 0 false a.place b.place c.place d.place o.all none_tried (λ q ne. same_at q) r.all p some events is
    ]

    -- of sinks as they were before the sources went out, and after
    sinks_moved : (P : SinkSeen → SinkSeen → Type 0) (p : List ℕ) → P (b.sink p) (c.sink p) → P (a.sink p) (d.sink p)
    sinks_moved P p x = subst (λ (f : List ℕ → SinkSeen). P (f p) (d.sink p)) o.rest.sinks (subst (λ (f : List ℕ → SinkSeen). P (b.sink p) (f p)) (sym r.rest.sinks) x)

    refuses : (n : ℕ) (m : ℕ) (refusal : Refusal) (rows : List Element) → c.text ≡ b.text → n ≡ length parties.inputs → IsRefusal parties refusal n m
        → ((p : List ℕ) → PlaceKept (times p (take n (at_of parties.inputs))) (has p (refused_place parties refusal)) (a.place p) (d.place p))
        → ((p : List ℕ) → SinkKept (times p (take m (sink_names parties))) (has p (refused_sink parties refusal)) (b.sink p) (c.sink p))
        → ((p : List ℕ) → KeepsHeld (has p (emptied_sinks parties refusal m)) (b.sink p) (c.sink p)) → failed_text refusal ≡ [] → Comes left faults (Described conf rows) (Refused refusal n m) a d
    refuses n m refusal rows texts long is places counts helds unfailed = record {
      texts = λ p. subst (λ (l : List (List ℕ)). TextKept (has p l) (a.text p) (d.text p)) (sym unfailed) (unread (a.text p) (d.text p) (ap (λ (f : List ℕ → TextSeen). f p) (r.rest.texts ∙ (texts ∙ o.rest.texts))));
      places = places;
      sinks = λ p. sinks_moved (SinkKept (times p (take m (sink_names parties))) (has p (refused_sink parties refusal))) p (counts p);
      leaves = (is, lefts_back, λ p. sinks_moved (KeepsHeld (has p (emptied_sinks parties refusal m))) p (helds p));
    }

    no_sink : (m i : ℕ) → names ≡ sink_names parties → SinksStopped m names (At i) b c → IsRefused left faults conf (sink_refusal conf.order_log i) a d
    no_sink m i named s =
        let k = sink_is parties.inputs parties.stages parties.outputs conf.order_log i (subst (λ (l : List (List ℕ)). i < length l) named s.tried.1) in
        let refusal = sink_refusal conf.order_log i in (
          length parties.inputs,
          i + 1,
          (λ rows. refuses (length parties.inputs) (i + 1) refusal rows s.rest.texts refl k.is
              (λ p. subst (λ (l : List (List ℕ)). PlaceKept (times p (take (length parties.inputs) (at_of parties.inputs))) (has p l) (a.place p) (d.place p)) (sym k.no_place) (places_back p))
              (λ p. subst (λ (l : List (List ℕ)). SinkKept (times p (take (i + 1) (sink_names parties))) (has p l) (b.sink p) (c.sink p)) (sym k.refused)
              (subst (λ n. SinkKept (times p (take n (sink_names parties))) (has p (take 1 (drop i (sink_names parties)))) (b.sink p) (c.sink p)) s.tried.0
              (subst (λ (l : List (List ℕ)). SinkKept (times p (take m l)) (has p (take 1 (drop i l))) (b.sink p) (c.sink p)) named (s.counts p))))
              (λ p. subst (λ (l : List (List ℕ)). KeepsHeld (has p l) (b.sink p) (c.sink p)) (sym k.emptied) (subst (λ (l : List (List ℕ)). KeepsHeld (has p (take i l)) (b.sink p) (c.sink p)) named (s.held p)))
              k.no_text),
          r.rest.say ∙ (s.rest.say ∙ o.rest.say),
        )

    no_memory_then : (m : ℕ) → names ≡ sink_names parties → SinksStopped m names Memory b c → IsRefused left faults conf NoMemory a d
    no_memory_then m named s = (
      length parties.inputs,
      m,
      (λ rows. refuses (length parties.inputs) m NoMemory rows s.rest.texts refl (omega arith, subst (λ (l : List (List ℕ)). m ≤ length l) named s.tried, inl refl) places_back
          (λ p. subst (λ (l : List (List ℕ)). SinkKept (times p (take m l)) false (b.sink p) (c.sink p)) named (s.counts p))
          (λ p. subst (λ (l : List (List ℕ)). KeepsHeld (has p (take m l)) (b.sink p) (c.sink p)) named (s.held p))
          refl),
      r.rest.say ∙ (s.rest.say ∙ o.rest.say),
    )

    pub any_sink : (m : ℕ) (stopped : Stopped) → names ≡ sink_names parties → SinksStopped m names stopped b c → IsRefused left faults conf (sink_stopped conf.order_log stopped) a d
    any_sink m (At i) named s = no_sink m i named s
    any_sink m Memory named s = no_memory_then m named s

-- what is out, before anything was done with it
module _ {S K : Type 0} (left : S → Option (List Scripted)) (faults : S → ℕ) (held : K → Option (List ℕ)) (own_faults : K → ℕ) (conf : Conf) (sources : List S) (sinks : List K) (names : List (List ℕ)) (named : names ≡ sink_names (described_parties conf)) (a b : Seen)
    (out : AreOut left faults held own_faults conf sources sinks a b) where
  sinks_named : SinksOut held own_faults names sinks out.0 b
  sinks_named = subst (λ (l : List (List ℕ)). SinksOut held own_faults l sinks out.0 b) (sym named) out.2

  pub sources_long : length sources ≡ length conf.inputs
  sources_long = long_sources left faults conf sources a out.0 out.1

  pub sinks_long : length sinks ≡ length names
  sinks_long = sym (same_length (Begins sink_held sink_faults sink_openings sink_out held own_faults nothing_held out.0.sink) 0 names sinks sinks_named.all.each)

  pub refused_unused : (c d : Seen) → SinksBack held own_faults names sinks b c → SourcesBack left faults (places_of conf.inputs) sources c d → IsRefused left faults conf NoMemory a d
  refused_unused c d k r =
      any_sink left faults conf sources names a out.0 c d out.1 r (k.rest.places ∙ out.2.rest.places) (length names) Memory named (unused_sinks held own_faults names sinks out.0 b c sinks_named k)
