-- Names that stand in a list, and the counts that go with them.
use Rattle.std.specs.Prelude.{ℕ, ◌+◌, ◌-◌, ◌^◌, min, max, cond, bytes_eq, Bool, false, ◌||◌, List, [], ◌∷◌}

-- how often a name stands in a list
abbrev pub times : List ℕ → List (List ℕ) → ℕ
times p [] = 0
times p (name ∷ names) = cond (bytes_eq p name) 1 0 + times p names

-- whether it does
abbrev pub has : List ℕ → List (List ℕ) → Bool
has p [] = false
has p (name ∷ names) = bytes_eq p name || has p names

-- the names that are marked
abbrev pub marked : List (List ℕ) → List Bool → List (List ℕ)
marked [] marks = []
marked (name ∷ names) [] = []
marked (name ∷ names) (mark ∷ marks) = cond mark (name ∷ marked names marks) (marked names marks)

-- a number of openings after n more, which stands at its end
abbrev pub after_openings : ℕ → ℕ → ℕ
after_openings n count = max count (min (count + n) (2 ^ 64 - 1))
