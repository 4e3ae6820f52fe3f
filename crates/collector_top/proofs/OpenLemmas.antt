-- One place and one sink name: opened, and given back.
use Rattle.std.proofs.Common.{◌≡◌, ◌≢◌, inl, inr, ℕ, ◌+◌, ◌<◌, ◌≤◌, Bool, true, false, cond, List, [], ◌∷◌, ◌++◌, take, Option, Some, None, refl, ap, sym, subst, ◌∙◌, arith}
use Rattle.std.specs.Prelude.{◌||◌, IfSome, IsSome}
use Rattle.arrival_spec.specs.declared.event.Scripted.{Scripted}
use Rattle.site_io.specs.Outside.{Rose}
use Rattle.site_io.specs.Seen.{PlaceSeen, SinkSeen, SourceGoesOut, SourceComesBack, PlaceRefuses, SinkGoesOut, SinkComesBack, SinkRefuses}
use Rattle.site_io.specs.Writes.{Grows}
use Rattle.call_spec.specs.declared.end.InputEnd.{InputEnd}
use Rattle.call_spec.specs.declared.end.InputEnd.TheVariants as end
use Rattle.call_spec.specs.Names.{times, has}
use Rattle.call_spec.specs.Counts.{MovesBy, PlaceKept, SinkKept}
use Rattle.call_spec.specs.Ends.{TakenFrom, IsNothingLeft, EndsReading, GrowsAs, Holds, HoldsAs}
use Rattle.call_spec.proofs.NameLemmas.{same_or}
use Rattle.described_texts.proofs.KeptLemmas.{failed_here, failed_away}

-- one name was tried, and all others are as they were
pub by_name : {X : Type 0} (P : ℕ → Bool → X → X → Type 0) (name : List ℕ) (failed : List (List ℕ)) (b : Bool) (old new : List ℕ → X) → ((x : X) → P 0 false x x) → has name failed ≡ b → ((q : List ℕ) → q ≢ name → has q failed ≡ false)
    → P 1 b (old name) (new name) → ((q : List ℕ) → q ≢ name → new q ≡ old q) → (p : List ℕ) → P (times p (name ∷ [])) (has p failed) (old p) (new p)
by_name {X} P name failed b old new none here away one others p =
    elim (same_or p name) [
      | inl s ↦ (let n : times p (name ∷ []) ≡ 1 = ap (λ c. cond c 1 0 + 0) s.0 in
          let f : has p failed ≡ b = ap (λ q. has q failed) s.1 ∙ here in
          subst (λ m. P m (has p failed) (old p) (new p)) (sym n) (subst (λ c. P 1 c (old p) (new p)) (sym f) (subst (λ q. P 1 b (old q) (new q)) (sym s.1) one)))
      | inr d ↦ (let n : times p (name ∷ []) ≡ 0 = ap (λ c. cond c 1 0 + 0) d.0 in
          subst (λ m. P m (has p failed) (old p) (new p)) (sym n) (subst (λ c. P 0 c (old p) (new p)) (sym (away p d.1)) (subst (λ (x : X). P 0 false (old p) x) (sym (others p d.1)) (none (old p)))))
    ]

pub marked_here : (name : List ℕ) (b : Bool) → has name (cond b (name ∷ []) []) ≡ b
marked_here name true = failed_here name
marked_here name false = refl

pub marked_away : (name : List ℕ) (b : Bool) (q : List ℕ) → q ≢ name → has q (cond b (name ∷ []) []) ≡ false
marked_away name true q ne = failed_away name q ne
marked_away name false q ne = refl

-- ---- counts

-- a count that rose while it was out
moved : (b : Bool) (fresh now old new : ℕ) → fresh ≡ 0 → MovesBy b fresh now → old ≤ new → (0 < now → Rose old new) → (now ≡ 0 → new ≡ old) → MovesBy b old new
moved true fresh now old new z m later rose none = (later, rose (let r = m.1 in let e = z in omega (arith, r, e)))
moved false fresh now old new z m later rose none = none (m ∙ z)

-- a source went out and came back
pub place_back : (b : Bool) (old mid back new : PlaceSeen) (left now_left : Option (List Scripted)) (faults now_faults : ℕ) → SourceGoesOut old mid left faults → back ≡ mid → SourceComesBack back new now_left now_faults → MovesBy b faults now_faults
    → PlaceKept 1 b old new
place_back b old mid back new left now_left faults now_faults g same c m = record {
  out = (let o = g.out in let t = c.out in let e = ap (λ (x : PlaceSeen). x.out) same in omega (arith, o, t, e));
  openings = c.openings ∙ (ap (λ (x : PlaceSeen). x.openings) same ∙ g.openings);
  faults = moved b faults now_faults old.faults new.faults g.fresh m (subst (λ n. n ≤ new.faults) (ap (λ (x : PlaceSeen). x.faults) same ∙ g.no_fault) c.later)
      (λ lt. subst (λ n. Rose n new.faults) (ap (λ (x : PlaceSeen). x.faults) same ∙ g.no_fault) (c.rose lt)) (λ z. c.no_fault z ∙ (ap (λ (x : PlaceSeen). x.faults) same ∙ g.no_fault));
  same = λ e. absurd (omega (arith, e));
}

pub place_refused : (old new : PlaceSeen) → PlaceRefuses old new → PlaceKept 1 true old new
place_refused old new r = record { out = r.out; openings = r.openings; faults = (r.later, r.rose); same = λ e. absurd (omega (arith, e)) }

-- a sink went out and came back
pub sink_back : (b : Bool) (old mid back new : SinkSeen) (held now_held : Option (List ℕ)) (total : Option ℕ) (faults now_faults : ℕ) → SinkGoesOut old mid held total faults → back ≡ mid → SinkComesBack back new now_held now_faults → MovesBy b faults now_faults
    → SinkKept 1 b old new
sink_back b old mid back new held now_held total faults now_faults g same c m = record {
  out = (let o = g.out in let t = c.out in let e = ap (λ (x : SinkSeen). x.out) same in omega (arith, o, t, e));
  openings = c.openings ∙ (ap (λ (x : SinkSeen). x.openings) same ∙ g.openings);
  faults = moved b faults now_faults old.faults new.faults g.fresh m (subst (λ n. n ≤ new.faults) (ap (λ (x : SinkSeen). x.faults) same ∙ g.no_fault) c.later)
      (λ lt. subst (λ n. Rose n new.faults) (ap (λ (x : SinkSeen). x.faults) same ∙ g.no_fault) (c.rose lt)) (λ z. c.no_fault z ∙ (ap (λ (x : SinkSeen). x.faults) same ∙ g.no_fault));
  same = λ e. absurd (omega (arith, e));
}

pub sink_refused : (old new : SinkSeen) → SinkRefuses old new → SinkKept 1 true old new
sink_refused old new r = record { out = r.out; openings = r.openings; faults = (r.later, r.rose); same = λ e. absurd (omega (arith, e)) }

-- ---- contents

-- what was taken from a source was taken from its place
pub place_taken : (old now left now_left : Option (List Scripted)) (given : List Scripted) → IfSome old (λ events. left ≡ Some events) → now ≡ now_left → TakenFrom left now_left given → TakenFrom old now given
place_taken None now left now_left given told shown t = tt
place_taken (Some xs) now left now_left given told shown t = subst (λ (n : Option (List Scripted)). TakenFrom (Some xs) n given) (sym shown) (subst (λ (l : Option (List Scripted)). TakenFrom l now_left given) told t)

place_nothing : (old now left now_left : Option (List Scripted)) → IfSome old (λ events. left ≡ Some events) → now ≡ now_left → IsNothingLeft left now_left → IsNothingLeft old now
place_nothing None now left now_left told shown t = tt
place_nothing (Some xs) now left now_left told shown t = subst (λ (n : Option (List Scripted)). IsNothingLeft (Some xs) n) (sym shown) (subst (λ (l : Option (List Scripted)). IsNothingLeft l now_left) told t)

pub place_ends : (old now left now_left : Option (List Scripted)) (given : List Scripted) (e : InputEnd) → IfSome old (λ events. left ≡ Some events) → now ≡ now_left → EndsReading left now_left given e → EndsReading old now given e
place_ends old now left now_left given end.End told shown r = (place_nothing old now left now_left told shown r.0, r.1)
place_ends old now left now_left given end.Failed told shown r = r
place_ends old now left now_left given end.Limit told shown r = r
place_ends old now left now_left given end.Memory told shown r = r

-- what a place has left stays where nothing was asked
pub place_left : (old now left : Option (List Scripted)) → IfSome old (λ events. left ≡ Some events) → now ≡ left → (events : List Scripted) → old ≡ Some events → now ≡ Some events
place_left None now left told shown events e = absurd (cc)
place_left (Some xs) now left told shown events e = shown ∙ (told ∙ e)

-- what a sink holds since it was empty is what its name shows
sink_holds : (old now held now_held : Option (List ℕ)) (octets : List ℕ) → IfSome held (λ h. h ≡ []) → (IsSome old → IsSome held) → now ≡ now_held → Grows held now_held octets → Holds old now octets
sink_holds None now held now_held octets empty told shown g = tt
sink_holds (Some xs) now None now_held octets empty told shown g = absurd (let t = told refl in cc)
sink_holds (Some xs) now (Some ys) None octets empty told shown g = absurd g
sink_holds (Some xs) now (Some ys) (Some zs) octets empty told shown g = shown ∙ ap (λ (l : List ℕ). Some l) (g ∙ ap (λ (l : List ℕ). l ++ octets) empty)

pub sink_holds_as : (b : Bool) (old now held now_held : Option (List ℕ)) (text : List ℕ) → IfSome held (λ h. h ≡ []) → (IsSome old → IsSome held) → now ≡ now_held → GrowsAs b held now_held text → HoldsAs b old now text
sink_holds_as false old now held now_held text empty told shown g = sink_holds old now held now_held text empty told shown g
sink_holds_as true old now held now_held text empty told shown g = (g.0, sink_holds old now held now_held (take g.0 text) empty told shown g.1)

pub or_none : (a b : Bool) → (a || b) ≡ (a || (b || false))
or_none true b = refl
or_none false true = refl
or_none false false = refl
