-- The octets that the generator of load draws from a state of 64 bits.
use Rattle.std.specs.Prelude.{ℕ, zero, suc, ◌+◌, ◌*◌, ◌/◌, ◌%◌, ◌^◌, List, [], ◌∷◌}

-- the state that a draw leaves
unfoldable pub next_state : ℕ → ℕ
next_state x = (x * 6364136223846793005 + 1442695040888963407) % 2 ^ 64

-- the octet that it gives, by the state that it leaves
unfoldable pub octet_in : ℕ → ℕ
octet_in x = x / 2 ^ 33 % 256

-- the state after so many draws
abbrev pub state_after : ℕ → ℕ → ℕ
state_after zero x = x
state_after (suc n) x = state_after n (next_state x)

-- the octets of so many draws, one by one
abbrev pub draws : ℕ → ℕ → List ℕ
draws zero x = []
draws (suc n) x = octet_in (next_state x) ∷ draws n (next_state x)
