-- One draw more.
use Rattle.std.proofs.Common.{◌≡◌, ℕ, ◌+◌, ◌<◌, List, [], ◌∷◌, ◌++◌, length, take, set, ap, sym, ◌∙◌}
use Rattle.std.proofs.lemmas.List.{take_more_set}
use Rattle.load_spec.specs.Draws.{next_state, octet_in, state_after, draws}
use Rattle.load_spec.proofs.DrawLemmas.{state_joined, draws_joined}

-- so many octets of a room are drawn
abbrev pub AreDrawn : ℕ → ℕ → List ℕ → ℕ → Type 0
AreDrawn x i room left = (take i room ≡ draws i x) × (left ≡ state_after i x)

pub drawn_more : (x i : ℕ) (room : List ℕ) (left next octet : ℕ) → next ≡ next_state left → octet ≡ octet_in next → i < length room → AreDrawn x i room left → AreDrawn x (i + 1) (set room i octet) next
drawn_more x i room left next octet stepped given inside h =
    let n : next ≡ next_state (state_after i x) = stepped ∙ ap next_state h.1 in (
      take_more_set room i octet inside ∙ (ap (λ l. l ++ octet ∷ []) h.0 ∙ (ap (λ o. draws i x ++ o ∷ []) (given ∙ ap octet_in n) ∙ sym (draws_joined i 1 x))),
      n ∙ sym (state_joined i 1 x),
    )
