-- What becomes of a definition, by the valid one; and what an ignored withdrawal leaves.
use Rattle.std.proofs.Common.{◌≡◌, inl, inr, ℕ, Bool, true, false, cond, List, ◌∷◌, ◌++◌, Some, None, refl, ap, sym, ◌∙◌}
use Rattle.std.specs.Prelude.{Option, option_map}
use Rattle.std.proofs.lemmas.Bool.{cases_Bool, both_ways}
use Rattle.col_base.specs.declared.base.Lifetimes.{Lifetimes}
use Rattle.col_base.specs.declared.base.Transport.TheVariants.{Udp}
use Rattle.wire_spec.specs.Content.{Definition, Touch}
use Rattle.wire_spec.specs.Content.Touch.{Define, Withdraw, WithdrawAll}
use Rattle.template_spec.specs.declared.outcome.Taken.TheVariants.{New, Redefined, Same}
use Rattle.template_spec.specs.Changes.{changes, is_new_to, latest}
use Rattle.template_spec.specs.Late.{is_kept}
use Rattle.template_spec.specs.Same.{same_definition}
use Rattle.template_spec.specs.Taken.{defined_as, taken}
use Rattle.template_spec.specs.Valid.{newest, valid, while_alive}
use Rattle.template_spec.proofs.EndedLemmas.{without_all, without_one}
use Rattle.template_spec.proofs.SameLemmas.{same_own, same_true}

-- whether an outcome is one or the other, by the test
by_same : (b : Bool) → cond b Same Redefined ≡ Same → b ≡ true
by_same true e = refl
by_same false e = absurd cc

by_other : (b : Bool) → cond b Same Redefined ≡ Redefined → b ≡ false
by_other true e = absurd cc
by_other false e = refl

not_new : (b : Bool) → cond b Same Redefined ≡ New → ⊥
not_new true e = cc
not_new false e = cc

differs : (found definition : Definition) → (found ≡ definition → ⊥) → same_definition found definition ≡ false
differs found definition other =
    elim (cases_Bool (same_definition found definition)) [
      | inl e ↦ absurd (other (same_true found definition e))
      | inr e ↦ e
    ]

module _ (definition : Definition) where
  pub new_from : (found : Option Definition) → found ≡ None → defined_as found definition ≡ New
  new_from found e = ap (λ o. defined_as o definition) e

  pub same_from : (found : Option Definition) → found ≡ Some definition → defined_as found definition ≡ Same
  same_from found e = ap (λ o. defined_as o definition) e ∙ ap (λ b. cond b Same Redefined) (same_own definition)

  pub redefined_from : (found : Option Definition) (other : Definition) → found ≡ Some other → (other ≡ definition → ⊥) → defined_as found definition ≡ Redefined
  redefined_from found other e ne = ap (λ o. defined_as o definition) e ∙ ap (λ b. cond b Same Redefined) (differs other definition ne)

  pub new_back : (found : Option Definition) → defined_as found definition ≡ New → found ≡ None
  new_back None e = refl
  new_back (Some other) e = absurd (not_new (same_definition other definition) e)

  pub same_back : (found : Option Definition) → defined_as found definition ≡ Same → found ≡ Some definition
  same_back None e = absurd cc
  same_back (Some other) e = ap Some (same_true other definition (by_same (same_definition other definition) e))

  pub redefined_back : (found : Option Definition) → defined_as found definition ≡ Redefined → (other : Definition) × (found ≡ Some other) × (other ≡ definition → ⊥)
  redefined_back None e = absurd cc
  redefined_back (Some other) e = (
    other,
    refl,
    λ (same : other ≡ definition). both_ways (same_definition other definition) (by_other (same_definition other definition) e) (ap (same_definition other) (sym same) ∙ same_own other),
  )

-- over UDP a withdrawal may be left out
pub newest_without : (before after : List (ℕ × Touch)) (t : ℕ × Touch) (time id : ℕ) → is_kept Udp t.1 ≡ false → newest (before ++ t ∷ after) time id ≡ newest (before ++ after) time id
newest_without before after (at, Define k definition) time id e = absurd cc
newest_without before after (at, Withdraw k) time id e = without_one before after at time id k
newest_without before after (at, WithdrawAll kind) time id e = without_all before after at time id kind

pub itself_unchanged : (past : List (ℕ × Touch)) (t : ℕ × Touch) → is_kept Udp t.1 ≡ false → changes Udp past t ≡ false
itself_unchanged past (at, Define k definition) e = absurd cc
itself_unchanged past (at, Withdraw k) e = refl
itself_unchanged past (at, WithdrawAll kind) e = refl

pub valid_without : (life : Lifetimes) (before after : List (ℕ × Touch)) (t : ℕ × Touch) (time id : ℕ) → is_kept Udp t.1 ≡ false → valid Udp life (before ++ t ∷ after) time id ≡ valid Udp life (before ++ after) time id
valid_without life before after t time id e = ap (while_alive life time) (newest_without before after t time id e)

pub latest_without : (before after : List (ℕ × Touch)) (t : ℕ × Touch) (time id : ℕ) → is_kept Udp t.1 ≡ false → latest Udp (before ++ t ∷ after) time id ≡ latest Udp (before ++ after) time id
latest_without before after t time id e = ap (option_map (λ found. found.1)) (newest_without before after t time id e)

pub taken_without : (life : Lifetimes) (before after : List (ℕ × Touch)) (t u : ℕ × Touch) → is_kept Udp t.1 ≡ false → taken Udp life (before ++ t ∷ after) u ≡ taken Udp life (before ++ after) u
taken_without life before after t (time, Define k definition) e = ap (λ o. defined_as o definition) (valid_without life before after t time k e)
taken_without life before after t (time, Withdraw k) e = refl
taken_without life before after t (time, WithdrawAll kind) e = refl

pub changes_without : (before after : List (ℕ × Touch)) (t u : ℕ × Touch) → is_kept Udp t.1 ≡ false → changes Udp (before ++ t ∷ after) u ≡ changes Udp (before ++ after) u
changes_without before after t (time, Define k definition) e = ap (λ o. is_new_to o definition) (latest_without before after t time k e)
changes_without before after t (time, Withdraw k) e = refl
changes_without before after t (time, WithdrawAll kind) e = refl
