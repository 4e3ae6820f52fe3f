-- The line of one of several by its index.
use Rattle.std.proofs.Common.{◌≡◌, ℕ, zero, suc, ◌<◌, List, [], ◌∷◌, ◌++◌, length, take, drop, get_or, map, refl, ap, sym, ◌∙◌, arith, append-nil}
use Rattle.std.specs.Prelude.{flat_map}
use Rattle.call_spec.specs.Came.{Party}
use Rattle.call_spec.specs.Lines.{names_of}

module _ {A : Type 0} (party : A → Party) where
  name_at : (xs : List A) (i : ℕ) (d : A) → i < length xs → take 1 (drop i (names_of (map party xs))) ≡ (party (get_or xs i d)).name ∷ []
  name_at [] i d lt = absurd (omega arith)
  name_at (x ∷ xs) zero d lt = refl
  name_at (x ∷ xs) (suc i) d lt = name_at xs i d (omega arith)

  pub line_at : (line : List ℕ → List ℕ) (xs : List A) (i : ℕ) (d : A) → i < length xs → line (party (get_or xs i d)).name ≡ flat_map line (take 1 (drop i (names_of (map party xs))))
  line_at line xs i d lt = sym (ap (flat_map line) (name_at xs i d lt) ∙ append-nil (line (party (get_or xs i d)).name))
