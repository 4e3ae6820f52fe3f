-- What each input of a run gave, by its place.
use Rattle.std.proofs.Common.{◌≡◌, inl, inr, ℕ, suc, ◌≤◌, ◌<◌, Bool, true, false, List, [], ◌∷◌, Option, Some, None, map, refl, ap, sym, subst, ◌∙◌, arith}
use Rattle.std.specs.Prelude.{IsSome, is_some, nat_lt}
use Rattle.std.specs.List.{list_all}
use Rattle.std.proofs.lemmas.Bool.{and_parts}
use Rattle.std.proofs.lemmas.Bool.Decides.{nat_tests}
use Rattle.arrival_spec.specs.declared.event.Scripted.{Scripted}
use Rattle.config_spec.specs.declared.conf.Conf.{Conf}
use Rattle.config_spec.specs.declared.conf.InputConf.{InputConf}
use Rattle.text_spec.specs.declared.element.Element.{Element}
use Rattle.result_spec.specs.Result.{inputs_of}
use Rattle.site_io.specs.Seen.{Seen, PlaceSeen}
use Rattle.call_spec.specs.Came.{InputCame}
use Rattle.call_spec.specs.Counts.{MovesBy, PlaceKept}
use Rattle.call_spec.specs.declared.end.InputEnd.{InputEnd}
use Rattle.call_spec.specs.declared.end.InputEnd.TheVariants as end
use Rattle.call_spec.specs.Ends.{EndsInput, IsNothingLeft, TakenFrom}
use Rattle.call_spec.specs.Leaves.{Gave, at_of, limit_of}
use Rattle.call_spec.specs.Names.{times}
use Rattle.call_spec.specs.Pairs.{Each}
use Rattle.call_spec.specs.Plan.{input_party}
use Rattle.call_spec.specs.Plan.Plan.{Described}
use Rattle.logged_outputs.specs.Entries.{Entry}
use Rattle.run_input.specs.declared.input.Input.{Input}
use Rattle.run_entries.specs.Came.{InputCameTo, end_or}
use Rattle.run_entries.proofs.EndLemmas.{input_ends}
use Rattle.site_openings.specs.Out.{Begins, CameBack, Shows, WentOut}
use Rattle.site_openings.specs.Places.{all_left, place_faults, place_left, place_openings, place_out, places_of}
use Rattle.run_inputs.specs.Made.{sources_of}

pub places_are : (inputs : List InputConf) → places_of inputs ≡ at_of (map input_party inputs)
places_are [] = refl
places_are (c ∷ inputs) = ap (λ l. c.spec.place ∷ l) (places_are inputs)

pub is_told : {X : Type 0} (o : Option X) (x : X) → o ≡ Some x → IsSome o
is_told o x e = rw e refl

-- a place whose sources went out and came back
pub place_kept : (n : ℕ) (f : Bool) (a b c d : PlaceSeen) → WentOut place_faults place_openings place_out n a b → c ≡ b → CameBack place_faults place_openings place_out n f c d → PlaceKept n f a d
place_kept n f a b c d o same r = subst (λ (x : PlaceSeen). CameBack place_faults place_openings place_out n f x d → PlaceKept n f a d) (sym same) (λ r. record {
  out = omega (arith, o.out_now, r.out_now);
  openings = r.openings_now ∙ o.openings_now;
  faults = subst (λ u. MovesBy f u d.faults) o.faults_now r.faults_now;
  same = λ e. r.same e ∙ o.same e;
}) r

-- what failed has a count above 0
pub counted_failed : (f : Bool) (n m : ℕ) → n ≡ 0 → MovesBy f n m → nat_lt 0 m ≡ f
counted_failed true n m z h = (let o : 0 < m = omega (arith, h.1, h.0) in grind (arith, nat_tests))
counted_failed false n m z h = (let o : m ≡ 0 = h ∙ z in grind (arith, nat_tests))

-- ---- where a place tells what it has left, its source begins with that, and what the source has left is what is left there

abbrev Told : Option (List Scripted) → Option (List Scripted) → Option (List Scripted) → Option (List Scripted) → Type 0
Told o m was now = (events : List Scripted) → o ≡ Some events → (was ≡ Some events) × (m ≡ now)

taken_at : (o m was now : Option (List Scripted)) (given : List Scripted) → Told o m was now → TakenFrom was now given → TakenFrom o m given
taken_at None m was now given f t = tt
taken_at (Some events) m was now given f t = let h = f events refl in subst (λ (x : Option (List Scripted)). TakenFrom (Some events) x given) (sym h.1) (subst (λ (x : Option (List Scripted)). TakenFrom x now given) h.0 t)

nothing_at : (o m was now : Option (List Scripted)) → Told o m was now → IsNothingLeft was now → IsNothingLeft o m
nothing_at None m was now f t = tt
nothing_at (Some events) m was now f t = let h = f events refl in subst (λ (x : Option (List Scripted)). IsNothingLeft (Some events) x) (sym h.1) (subst (λ (x : Option (List Scripted)). IsNothingLeft x now) h.0 t)

ends_at : (limit : ℕ) (o m was now : Option (List Scripted)) (given : List Scripted) (e : InputEnd) (failed : Bool) → Told o m was now → EndsInput limit was now given e failed → EndsInput limit o m given e failed
ends_at limit o m was now given end.End failed f (calm_all, inl h) = (calm_all, inl (nothing_at o m was now f h.0, h.1))
ends_at limit o m was now given end.End failed f (calm_all, inr full) = (calm_all, inr full)
ends_at limit o m was now given end.Failed failed f h = h
ends_at limit o m was now given end.Limit failed f h = h
ends_at limit o m was now given end.Memory failed f h = h

module _ {S : Type 0} (left : S → Option (List Scripted)) (faults : S → ℕ) where
  -- how inputs ended is how they came out
  pub ends_same : (conf : Conf) (entries : List Entry) (n : ℕ) (pairs : List (S × InputCame)) (xs : List (Input S)) → Each (InputCameTo left faults (inputs_of conf) entries) n pairs xs
      → map (λ (x : Input S). end_or x.end) xs ≡ map (λ (c : InputCame). c.end) (map (λ (p : S × InputCame). p.1) pairs)
  ends_same conf entries n [] [] e = refl
  ends_same conf entries n [] (x ∷ xs) e = absurd e
  ends_same conf entries n (p ∷ pairs) [] e = absurd e
  ends_same conf entries n (p ∷ pairs) (x ∷ xs) e =
      let head : p.1.end ≡ end_or x.end = ap (λ (c : InputCame). c.end) e.0.is in
      λ i. sym head i ∷ ends_same conf entries (suc n) pairs xs e.1 i

  module _ (conf : Conf) (rows : List Element) (entries : List Entry) (names : List (List ℕ)) (a e : Seen) (once : (p : List ℕ) → IsSome (a.place p).left → times p names ≤ 1) where
    abbrev Began : ℕ → List ℕ → S → Type 0
    Began k name first = Begins place_left place_faults place_openings place_out left faults all_left a.place k name first

    abbrev Shown : ℕ → List ℕ → S → Type 0
    Shown k name source = Shows place_left place_faults place_openings place_out left faults names e.place k name source × (1 ≤ times name names)

    -- of one input
    gave : (k : ℕ) (input : InputConf) (pair : S × InputCame) (x : Input S) → is_some x.end ≡ true → Began k input.spec.place pair.0 → InputCameTo left faults (inputs_of conf) entries k pair x → Shown k input.spec.place x.inlet.source
        → Gave left faults (Described conf rows) a e k (input_party input) pair.1
    gave k input pair x some b c s =
        let place = input.spec.place in
        let told : Told (a.place place).left (e.place place).left (left pair.0) (left x.inlet.source) = (λ events is. (b.0 events is, s.0 (let few = once place (is_told (a.place place).left events is) in let m = s.1 in omega arith))) in
        let u = c.has.unfailed in
        record {
          taken = taken_at (a.place place).left (e.place place).left (left pair.0) (left x.inlet.source) pair.1.given told c.has.taken;
          unfailed = (
            u.0,
            u.1 ∙ b.1,
            taken_at (a.place place).left (left u.0) (left pair.0) (left u.0) pair.1.given (λ events is. ((told events is).0, refl)) u.2,
          );
          ends =
              ends_at (limit_of conf k) (a.place place).left (e.place place).left (left pair.0) (left x.inlet.source) pair.1.given pair.1.end pair.1.failed told
              (input_ends left faults (inputs_of conf) entries k pair x c some b.1);
        }

    -- of all
    pub all_gave : (n : ℕ) (inputs : List InputConf) (pairs : List (S × InputCame)) (xs : List (Input S)) → list_all (λ (x : Input S). is_some x.end) xs ≡ true → Each Began n (places_of inputs) (map (λ (p : S × InputCame). p.0) pairs)
        → Each (InputCameTo left faults (inputs_of conf) entries) n pairs xs → Each Shown n (places_of inputs) (sources_of xs)
        → Each (Gave left faults (Described conf rows) a e) n (map input_party inputs) (map (λ (p : S × InputCame). p.1) pairs)
    all_gave n [] [] [] ended b c s = tt
    all_gave n [] [] (x ∷ xs) ended b c s = absurd c
    all_gave n [] (p ∷ pairs) xs ended b c s = absurd b
    all_gave n (input ∷ inputs) [] xs ended b c s = absurd b
    all_gave n (input ∷ inputs) (p ∷ pairs) [] ended b c s = absurd c
    all_gave n (input ∷ inputs) (p ∷ pairs) (x ∷ xs) ended b c s =
        let both = and_parts (is_some x.end) (list_all (λ (y : Input S). is_some y.end) xs) ended in
        (gave n input p x both.0 b.0 c.0 s.0, all_gave (suc n) inputs pairs xs both.1 b.1 c.1 s.1)

  -- whose source failed
  pub all_failed : (conf : Conf) (entries : List Entry) (n : ℕ) (pairs : List (S × InputCame)) (xs : List (Input S)) → Each (InputCameTo left faults (inputs_of conf) entries) n pairs xs
      → map (λ t. nat_lt 0 (faults t)) (sources_of xs) ≡ map (λ (c : InputCame). c.failed) (map (λ (p : S × InputCame). p.1) pairs)
  all_failed conf entries n [] [] e = refl
  all_failed conf entries n [] (x ∷ xs) e = absurd e
  all_failed conf entries n (p ∷ pairs) [] e = absurd e
  all_failed conf entries n (p ∷ pairs) (x ∷ xs) e =
      let head : p.1.failed ≡ nat_lt 0 (faults x.inlet.source) = ap (λ (c : InputCame). c.failed) e.0.is in
      λ i. sym head i ∷ all_failed conf entries (suc n) pairs xs e.1 i
