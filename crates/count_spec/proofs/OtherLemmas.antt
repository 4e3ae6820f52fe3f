-- What comes in a session of another input leaves the live snapshots of an input as they were.
use Rattle.std.proofs.Common.{◌≡◌, ℕ, inl, inr, Bool, true, false, not, cond, List, [], ◌∷◌, ◌++◌, Some, None, refl, ap, sym, ◌∙◌, arith, append-nil}
use Rattle.std.specs.Prelude.{Ok, Err, Option, ◌==◌, ◌≢◌, sum_by}
use Rattle.std.proofs.lemmas.Bool.{eqb-true}
use Rattle.std.proofs.lemmas.List.Elements.{filter-append}
use Rattle.std.proofs.lemmas.List.Sums.{sum_by-cons}
use Rattle.col_base.specs.declared.base.SessionKey.{SessionKey}
use Rattle.wire_spec.specs.Content.{Message}
use Rattle.arrival_spec.specs.Arrival.{input_of}
use Rattle.arrival_spec.specs.Arrival.Arrival.{SessionOpen, Raw, SessionClose, Periodic}
use Rattle.arrival_spec.specs.Order.{same_key, open_by}
use Rattle.run_spec.specs.Read.{ReadArrival}
use Rattle.run_spec.specs.Judge.{Inputs, Judgement}
use Rattle.run_spec.specs.Judge.Judgement.{Malformed, Crowded, Late, Taken}
use Rattle.run_spec.specs.Work.{Work}
use Rattle.run_spec.proofs.ApartLemmas.{same_is}
use Rattle.count_spec.specs.Counts.{taken_as}
use Rattle.count_spec.specs.Openings.{open_after, live_of, live_in}
use Rattle.count_spec.proofs.InUseLemmas.{others_of, own_keys, swapped, keys_more, nothing_of, other_session}
use Rattle.count_spec.proofs.PairLemmas.{taken_is}

-- a message that is taken is that of its arrival
pub taken_from : (a : ReadArrival) (j : Option Judgement) (t : SessionKey × Message) → taken_as a j ≡ t ∷ [] → a ≡ Raw t.0 (Ok t.1)
taken_from (SessionOpen key transport) j t e = absurd cc
taken_from (SessionClose key) j t e = absurd cc
taken_from (Periodic i seconds) j t e = absurd cc
taken_from (Raw key (Err fault)) j t e = absurd cc
taken_from (Raw key (Ok m)) None t e = absurd cc
taken_from (Raw key (Ok m)) (Some (Malformed fault)) t e = absurd cc
taken_from (Raw key (Ok m)) (Some Crowded) t e = absurd cc
taken_from (Raw key (Ok m)) (Some Late) t e = absurd cc
taken_from (Raw key (Ok m)) (Some Taken) t e = ap first e
  where
    first : List (SessionKey × Message) → ReadArrival
    first [] = Raw key (Ok m)
    first (u ∷ more) = Raw u.0 (Ok u.1)

module _ (inputs : Inputs) (input : ℕ) where
  -- sums over the sessions of the input alone
  sums_own : (f g : SessionKey → ℕ) → ((k : SessionKey) → (k.input == input) ≡ true → f k ≡ g k) → (keys : List SessionKey) → sum_by f (own_keys input keys) ≡ sum_by g (own_keys input keys)
  sums_own f g same [] = refl
  sums_own f g same (k ∷ keys) = by_test (k.input == input) refl (sums_own f g same keys)
    where
      by_test : (b : Bool) → (k.input == input) ≡ b → sum_by f (own_keys input keys) ≡ sum_by g (own_keys input keys)
          → sum_by f (cond b (k ∷ own_keys input keys) (own_keys input keys)) ≡ sum_by g (cond b (k ∷ own_keys input keys) (own_keys input keys))
      by_test true e further =
          let a = sum_by-cons f k (own_keys input keys) in
          let b = sum_by-cons g k (own_keys input keys) in
          let one = same k e in
          omega arith
      by_test false e further = further

  -- a session of another input is none of them
  not_here : (key k : SessionKey) → (key.input == input) ≡ false → (k.input == input) ≡ true → same_key k key ≡ false
  not_here key k other own = by_test (same_key k key) refl
    where
      by_test : (b : Bool) → same_key k key ≡ b → same_key k key ≡ false
      by_test true e = absurd (let no : true ≡ false = sym own ∙ (ap (λ (x : SessionKey). x.input == input) (same_is k key e) ∙ other) in cc)
      by_test false e = e

  keys_same : (keys : List SessionKey) (a : ReadArrival) → (input_of a == input) ≡ false → own_keys input (open_by keys a) ≡ own_keys input keys
  keys_same keys (SessionOpen key transport) other =
      filter-append (λ (k : SessionKey). k.input == input) keys (key ∷ []) ∙ (ap (λ c. own_keys input keys ++ cond c (key ∷ []) []) other ∙ append-nil (own_keys input keys))
  keys_same keys (Raw key read) other = refl
  keys_same keys (Periodic i seconds) other = refl
  keys_same keys (SessionClose key) other = swapped input key keys ∙ kept keys
    where
      kept : (list : List SessionKey) → others_of key (own_keys input list) ≡ own_keys input list
      kept [] = refl
      kept (k ∷ list) = by_test (k.input == input) refl (kept list)
        where
          by_test : (b : Bool) → (k.input == input) ≡ b → others_of key (own_keys input list) ≡ own_keys input list
              → others_of key (cond b (k ∷ own_keys input list) (own_keys input list)) ≡ cond b (k ∷ own_keys input list) (own_keys input list)
          by_test true e further = ap (λ c. cond (not c) (k ∷ others_of key (own_keys input list)) (others_of key (own_keys input list))) (not_here key k other e) ∙ ap (λ l. k ∷ l) further
          by_test false e further = further

  pub live_aside : (works : List Work) (w : Work) → (input_of w.arrival == input) ≡ false → live_in inputs input (works ++ w ∷ []) ≡ live_in inputs input works
  live_aside works w other =
      ap (sum_by (live_of inputs (works ++ w ∷ []))) (ap (own_keys input) (keys_more inputs works w) ∙ keys_same (open_after works) w.arrival other)
      ∙ sums_own (live_of inputs (works ++ w ∷ [])) (live_of inputs works) each (open_after works)
    where
      each : (k : SessionKey) → (k.input == input) ≡ true → live_of inputs (works ++ w ∷ []) k ≡ live_of inputs works k
      each k own =
          elim (taken_is w) [
            | inl n ↦ nothing_of inputs works w n k
            | inr t ↦ other_session inputs works w t.0.0 t.0.1 t.1 k (not_here t.0.0 k (ap (λ (a : ReadArrival). input_of a == input) (sym (taken_from w.arrival w.judgement t.0 t.1)) ∙ other) own)
          ]

  -- What is of another input leaves them.
  pub live_other : (works : List Work) (w : Work) → input_of w.arrival ≢ input → live_in inputs input (works ++ w ∷ []) ≡ live_in inputs input works
  live_other works w other = by_test (input_of w.arrival == input) refl
    where
      by_test : (b : Bool) → (input_of w.arrival == input) ≡ b → live_in inputs input (works ++ w ∷ []) ≡ live_in inputs input works
      by_test true e = absurd (other (eqb-true (input_of w.arrival) input e))
      by_test false e = live_aside works w e
