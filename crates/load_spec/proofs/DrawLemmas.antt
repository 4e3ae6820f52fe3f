-- Draws after draws.
use Rattle.std.proofs.Common.{◌≡◌, ℕ, zero, suc, ◌+◌, ◌∷◌, ◌++◌, length, refl, ap, ◌∙◌, zero-add, arith}
use Rattle.load_spec.specs.Draws.{next_state, octet_in, state_after, draws}

pub state_joined : (n m x : ℕ) → state_after (n + m) x ≡ state_after m (state_after n x)
state_joined zero m x = ap (λ k. state_after k x) (zero-add m)
state_joined (suc n) m x =
    let e : suc n + m ≡ suc (n + m) = omega arith in
    ap (λ k. state_after k x) e ∙ state_joined n m (next_state x)

pub draws_joined : (n m x : ℕ) → draws (n + m) x ≡ draws n x ++ draws m (state_after n x)
draws_joined zero m x = ap (λ k. draws k x) (zero-add m)
draws_joined (suc n) m x =
    let e : suc n + m ≡ suc (n + m) = omega arith in
    ap (λ k. draws k x) e ∙ ap (λ l. octet_in (next_state x) ∷ l) (draws_joined n m (next_state x))

pub draws_long : (n x : ℕ) → length (draws n x) ≡ n
draws_long zero x = refl
draws_long (suc n) x = ap suc (draws_long n (next_state x))
