-- What contracts see of a row, and rows in order of ID, and then of export time.
use Rattle.std.specs.Prelude.{ℕ, ◌≡◌, ◌<◌, ◌≤◌, ◌⊎◌, ◌==◌, ◌&&◌, ◌||◌, nat_lt, nat_le, Bool, true, false, List, [], ◌∷◌, drop, take, length}
use Rattle.std.specs.List.{AllByRecursion}
use Rattle.wire_spec.specs.Content.{Definition}

-- a definition of an ID, and the export time from which it serves
pub record Entry : Type 0 where
  pub id : ℕ
  pub t : ℕ
  pub definition : Definition

abbrev pub Precedes : Entry → Entry → Type 0
Precedes r s = (r.id < s.id) ⊎ ((r.id ≡ s.id) × (r.t < s.t))

-- each stands before all behind it
abbrev pub AreInOrder : List Entry → Type 0
AreInOrder [] = Unit {0}
AreInOrder (r ∷ rows) = AllByRecursion (Precedes r) rows × AreInOrder rows

-- no later than a row of an ID and an export time
abbrev pub is_up_to : ℕ → ℕ → Entry → Bool
is_up_to e id r = nat_lt r.id id || (r.id == id && nat_le r.t e)

-- a test holds of so many, the first ones, and of no other
pub record IsFront {X : Type 0} (p : X → Bool) (xs : List X) (i : ℕ) : Type 0 where
  pub within : i ≤ length xs
  pub front : AllByRecursion (λ x. p x ≡ true) (take i xs)
  pub back : AllByRecursion (λ x. p x ≡ false) (drop i xs)
