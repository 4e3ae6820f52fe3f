-- Two lists side by side.
use Rattle.std.specs.Prelude.{ℕ, suc, List, [], ◌∷◌}

-- the lists are as long, and each pair, numbered from n, has it
abbrev pub Each : {A B : Type 0} → (ℕ → A → B → Type 0) → ℕ → List A → List B → Type 0
Each P n [] [] = Unit {0}
Each P n [] (y ∷ ys) = ⊥
Each P n (x ∷ xs) [] = ⊥
Each P n (x ∷ xs) (y ∷ ys) = P n x y × Each P (suc n) xs ys
