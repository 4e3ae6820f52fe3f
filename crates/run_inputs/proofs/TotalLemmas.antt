-- Counts of inputs, from the last one on.
use Rattle.std.proofs.Common.{◌≡◌, ℕ, suc, ◌+◌, ◌<◌, List, ◌∷◌, length, drop, get_or, ap, sym, subst, ◌∙◌}
use Rattle.std.proofs.lemmas.List.{drop_more}
use Rattle.call_spec.specs.Pairs.{Each}
use Rattle.pipeline_message.specs.declared.run_counts.RunCounts.{RunCounts}
use Rattle.run_input.specs.declared.input.Input.{Input}
use Rattle.run_input.specs.Inputs.{CountsAll}

-- the counts of one input before those of all behind it
pub one_before : {S : Type 0} (xs : List (Input S)) (i m : ℕ) (x : Input S) (c : RunCounts) (cs : List RunCounts) → i < length xs → m ≡ i + 1 → x ≡ get_or xs i x → CountsAll x c → ((n : ℕ) → Each (λ _ y k. CountsAll y k) n (drop m xs) cs)
    → (n : ℕ) → Each (λ _ y k. CountsAll y k) n (drop i xs) (c ∷ cs)
one_before xs i m x c cs there next same counts each n =
    let rest : drop i xs ≡ x ∷ drop m xs = drop_more xs i x there ∙ (ap (λ y. y ∷ drop (i + 1) xs) (sym same) ∙ ap (λ j. x ∷ drop j xs) (sym next)) in
    subst (λ l. Each (λ _ y k. CountsAll y k) n l (c ∷ cs)) (sym rest) (counts, each (suc n))
