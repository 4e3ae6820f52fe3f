-- What is as it was after a call, and what the call promises from what came of it and what was said.
use Rattle.std.proofs.Common.{◌≡◌, ◌≢◌, inl, inr, ℕ, ◌||◌, true, false, List, [], ◌∷◌, Option, refl, ap, sym, subst, ◌∙◌, arith}
use Rattle.std.specs.Prelude.{Result, Err}
use Rattle.arrival_spec.specs.declared.event.Scripted.{Scripted}
use Rattle.site_io.specs.declared.outside.OutsideFault.{OutsideFault}
use Rattle.site_io.specs.Seen.{Seen, TextSeen, PlaceSeen, SinkSeen, SaidSeen, ChangesSay}
use Rattle.call_spec.specs.Names.{has}
use Rattle.call_spec.specs.Counts.{TextKept, PlaceKept, SinkKept}
use Rattle.call_spec.specs.Came.{Came}
use Rattle.call_spec.specs.Came.{Refusal as Reason}
use Rattle.call_spec.specs.Came.Came.{BadWords, Fine, Refused, Ran, Loaded}
use Rattle.call_spec.specs.Leaves.{failed_text, refused_place, refused_sink, emptied_sinks, IsRefusal, KeepsHeld, Leaves, Comes, Gave}
use Rattle.call_spec.specs.Lines.{Said, lines_of}
use Rattle.call_spec.specs.Status.{status_of}
use Rattle.call_spec.specs.Plan.{Plan, parties_of, no_parties}
use Rattle.call_spec.specs.Plan.Plan.{Nothing}
use Rattle.call_spec.specs.Call.{CallsOf}
use Rattle.call_spec.proofs.NameLemmas.{same_or, itself, none_after}
use Rattle.call_spec.proofs.PairLemmas.{weaker}
use Rattle.run_lines.specs.Says.{Says}
use Rattle.described_texts.specs.declared.verdict.Refusal.{Refusal}
use Rattle.described_texts.specs.declared.verdict.Refusal.TheVariants as refusal
use Rattle.described_texts.specs.Read.{reason_of, CountsTexts, KeepsRest}
use Rattle.described_texts.specs.Reports.{ReportsRefusal}

-- nothing was tried
pub still : (x : PlaceSeen) → PlaceKept 0 false x x
still x = record { out = refl; openings = sym (none_after x.openings); faults = refl; same = λ _. refl }

pub unsunk : (x : SinkSeen) → SinkKept 0 false x x
unsunk x = record { out = refl; openings = sym (none_after x.openings); faults = refl; same = λ _. refl }

pub unread : (x : TextSeen) → TextKept false x x
unread x = record { octets = refl; faults = refl }

-- the one name that failed
pub failed_here : (name : List ℕ) → has name (name ∷ []) ≡ true
failed_here name = ap (λ b. b || false) (itself name)

pub failed_away : (name q : List ℕ) → q ≢ name → has q (name ∷ []) ≡ false
failed_away name q ne = elim (same_or q name) [ inl s ↦ absurd (ne s.1) | inr d ↦ ap (λ b. b || false) d.0 ]

-- texts, places and sinks that are as they were
pub texts_still : (a b : Seen) → b.text ≡ a.text → (p : List ℕ) → TextKept false (a.text p) (b.text p)
texts_still a b e p = subst (λ (f : List ℕ → TextSeen). TextKept false (a.text p) (f p)) (sym e) (unread (a.text p))

pub places_still : (a b : Seen) → b.place ≡ a.place → (p : List ℕ) → PlaceKept 0 false (a.place p) (b.place p)
places_still a b e p = subst (λ (f : List ℕ → PlaceSeen). PlaceKept 0 false (a.place p) (f p)) (sym e) (still (a.place p))

pub sinks_still : (a b : Seen) → b.sink ≡ a.sink → (p : List ℕ) → SinkKept 0 false (a.sink p) (b.sink p)
sinks_still a b e p = subst (λ (f : List ℕ → SinkSeen). SinkKept 0 false (a.sink p) (f p)) (sym e) (unsunk (a.sink p))

-- a Site of which nothing has changed
pub seen_same : (a b : Seen) → b.text ≡ a.text → KeepsRest a b → b ≡ a
seen_same a b texts keeps =
    ap (λ (f : List ℕ → TextSeen). record b { text = f }) texts
    ∙ (ap (λ (f : List ℕ → PlaceSeen). record b { text = a.text; place = f }) keeps.places
    ∙ (ap (λ (f : List ℕ → SinkSeen). record b { text = a.text; place = a.place; sink = f }) keeps.sinks
    ∙ ap (λ (s : SaidSeen). record b { text = a.text; place = a.place; sink = a.sink; say = s }) keeps.say))

-- the text that failed, if one did
texts_counted : (T : Type 0) (r : Refusal) (a b : Seen) → CountsTexts {T = T} a.text b.text (Err r) → (p : List ℕ) → TextKept (has p (failed_text (reason_of r))) (a.text p) (b.text p)
texts_counted T (refusal.NoText name) a b o p = elim (same_or p name) [
  | inl x ↦ subst (λ q. TextKept (has q (name ∷ [])) (a.text q) (b.text q)) (sym x.1) (subst (λ h. TextKept h (a.text name) (b.text name)) (sym (failed_here name)) (record { octets = o.refuses.octets; faults = (o.refuses.later, o.refuses.rose) }))
  | inr d ↦ subst (λ h. TextKept h (a.text p) (b.text p)) (sym (failed_away name p d.1)) (subst (λ (x : TextSeen). TextKept false (a.text p) x) (sym (o.others p d.1)) (unread (a.text p)))
]
texts_counted T (refusal.BadDescription f) a b o p = texts_still a b o p
texts_counted T (refusal.BadElements name f) a b o p = texts_still a b o p
texts_counted T refusal.Memory a b o p = texts_still a b o p

-- what a refusal says of no parties
no_place : (r : Refusal) → refused_place no_parties (reason_of r) ≡ []
no_place (refusal.NoText name) = refl
no_place (refusal.BadDescription f) = refl
no_place (refusal.BadElements name f) = refl
no_place refusal.Memory = refl

no_sink : (r : Refusal) → refused_sink no_parties (reason_of r) ≡ []
no_sink (refusal.NoText name) = refl
no_sink (refusal.BadDescription f) = refl
no_sink (refusal.BadElements name f) = refl
no_sink refusal.Memory = refl

no_emptied : (r : Refusal) → emptied_sinks no_parties (reason_of r) 0 ≡ []
no_emptied (refusal.NoText name) = refl
no_emptied (refusal.BadDescription f) = refl
no_emptied (refusal.BadElements name f) = refl
no_emptied refusal.Memory = refl

is_refusal : (r : Refusal) → IsRefusal no_parties (reason_of r) 0 0
is_refusal (refusal.NoText name) = (refl, refl)
is_refusal (refusal.BadDescription f) = (refl, refl)
is_refusal (refusal.BadElements name f) = (refl, refl)
is_refusal refusal.Memory = (omega arith, omega arith, inr refl)

module _ {S : Type 0} (left : S → Option (List Scripted)) (faults : S → ℕ) where
  -- what was said changes nothing that came
  pub comes_still : (plan : Plan) (came : Came) (a b c : Seen) → ChangesSay b c → Comes left faults plan came a b → Comes left faults plan came a c
  comes_still plan came a b c ch k =
      subst (λ (f : List ℕ → TextSeen). Comes left faults plan came a (record c { text = f })) (sym ch.texts)
      (subst (λ (f : List ℕ → PlaceSeen). Comes left faults plan came a (record c { text = b.text; place = f })) (sym ch.places)
      (subst (λ (f : List ℕ → SinkSeen). Comes left faults plan came a (record c { text = b.text; place = b.place; sink = f })) (sym ch.sinks)
      (record { texts = k.texts; places = k.places; sinks = k.sinks; leaves = leaves_still came k.leaves })))
    where
      leaves_still : (came : Came) → Leaves left faults plan came a b → Leaves left faults plan came a (record c { text = b.text; place = b.place; sink = b.sink })
      leaves_still BadWords l = tt
      leaves_still Fine l = tt
      leaves_still (Refused r n m) l = l
      leaves_still (Ran run) l = record {
        gave = weaker (Gave left faults plan a b) (Gave left faults plan a (record c { text = b.text; place = b.place; sink = b.sink })) 0 (parties_of plan).inputs run.inputs (λ k party input lt g. record { taken = g.taken; unfailed = g.unfailed; ends = g.ends }) l.gave;
        ordered = l.ordered;
        logged = l.logged;
        stages = l.stages;
        holds = l.holds;
        counted = l.counted;
      }
      leaves_still (Loaded run lengths) l = l

  -- a call of which this came before its lines were said
  pub calls_said : (allowed : (List ℕ → TextSeen) → Plan → Came → Type 0) (plan : Plan) (came : Came) (a b c : Seen) (said : Result (Unit {0}) OutsideFault) (status : ℕ) → allowed a.text plan came → Comes left faults plan came a b → b.say ≡ a.say
      → Says b c (lines_of plan came) said → status ≡ status_of came said → CallsOf left faults allowed a c status
  calls_said allowed plan came a b c said status may k say s is = (
    plan,
    came,
    said,
    record { may = may; comes = comes_still plan came a b c s.rest k; says = subst (λ (x : SaidSeen). Said said x c.say (lines_of plan came)) say s.text_said; answers = is },
  )

  -- a call that was refused before its run
  pub calls_refused : (allowed : (List ℕ → TextSeen) → Plan → Came → Type 0) (plan : Plan) (r : Reason) (n m : ℕ) (a b c : Seen) (status : ℕ) → allowed a.text plan (Refused r n m) → Comes left faults plan (Refused r n m) a b → b.say ≡ a.say
      → ReportsRefusal (parties_of plan) r b c status → CallsOf left faults allowed a c status
  calls_refused allowed plan r n m a b c status may k say s = calls_said allowed plan (Refused r n m) a b c s.0 status may k say s.1 s.2

  -- nothing was tried
  pub comes_fine : (a b : Seen) → b.text ≡ a.text → KeepsRest a b → Comes left faults Nothing Fine a b
  comes_fine a b texts keeps = record { texts = texts_still a b texts; places = places_still a b keeps.places; sinks = sinks_still a b keeps.sinks; leaves = tt }

  -- a text was refused, before anything is planned
  pub comes_refused : (T : Type 0) (r : Refusal) (a b : Seen) → CountsTexts {T = T} a.text b.text (Err r) → KeepsRest a b → Comes left faults Nothing (Refused (reason_of r) 0 0) a b
  comes_refused T r a b counts keeps = record {
    texts = texts_counted T r a b counts;
    places = λ p. subst (λ (l : List (List ℕ)). PlaceKept 0 (has p l) (a.place p) (b.place p)) (sym (no_place r)) (places_still a b keeps.places p);
    sinks = λ p. subst (λ (l : List (List ℕ)). SinkKept 0 (has p l) (a.sink p) (b.sink p)) (sym (no_sink r)) (sinks_still a b keeps.sinks p);
    leaves = (
      is_refusal r,
      (λ p events is. ap (λ (f : List ℕ → PlaceSeen). (f p).left) keeps.places ∙ is),
      λ p. subst (λ (l : List (List ℕ)). KeepsHeld (has p l) (a.sink p) (b.sink p)) (sym (no_emptied r)) (ap (λ (f : List ℕ → SinkSeen). (f p).held) keeps.sinks),
    );
  }
