-- The sequence number that is due, set by set.
use Rattle.std.proofs.Common.{◌≡◌, ℕ, ◌+◌, ◌*◌, ◌%◌, ◌/◌, ◌^◌, Bool, cond, List, [], ◌∷◌, Some, None, length, refl, ap, sym, ◌∙◌, arith}
use Rattle.std.specs.List.{list_any}
use Rattle.std.proofs.lemmas.List.Sums.{sum_by-cons}
use Rattle.std.proofs.Math.Nat.{mod-add-div, add-mul-mod_self_left}
use Rattle.run_spec.specs.Outcome.{DecodedSet, Outcome, decoded_sets}
use Rattle.run_spec.specs.Outcome.Outcome.{Touched, Skipped, Empty, Decoded}
use Rattle.count_spec.specs.Counts.{is_skipped, next_number, records_in}
use Rattle.message_decode.specs.Due.{due_after}

apart : (x y a b : ℕ) → x + y ≡ a → a + b ≡ (x + b) + y
apart x y a b e = omega arith

-- a remainder may be taken early
pub mod_early : (a b k : ℕ) → (a % k + b) % k ≡ (a + b) % k
mod_early a b k = sym (ap (λ n. n % k) (apart (a % k) (k * (a / k)) a b (mod-add-div a k)) ∙ add-mul-mod_self_left (a % k + b) k (a / k))

turned : (a b : ℕ) → a + b ≡ b + a
turned a b = omega arith

pub mod_late : (a b k : ℕ) → (a + b % k) % k ≡ (a + b) % k
mod_late a b k = ap (λ n. n % k) (turned a (b % k)) ∙ (mod_early b a k ∙ ap (λ n. n % k) (turned b a))

none_after : (os : List Outcome) → due_after None os ≡ None
none_after [] = refl
none_after (Touched ∷ os) = none_after os
none_after (Skipped reason ∷ os) = none_after os
none_after (Empty ∷ os) = none_after os
none_after (Decoded d ∷ os) = none_after os

records_first : (d : DecodedSet) (os : List Outcome) → records_in (Decoded d ∷ os) ≡ length d.records + records_in os
records_first d os = sum_by-cons (λ (x : DecodedSet). length x.records) d (decoded_sets os)

by_first : (b : Bool) (n k r s : ℕ) → r ≡ k + s → cond b None (Some (((n + k) + s) % 2 ^ 32)) ≡ cond b None (Some ((n + r) % 2 ^ 32))
by_first b n k r s e = ap (λ m. cond b None (Some (m % 2 ^ 32))) (omega arith)

due_from : (n : ℕ) (os : List Outcome) → due_after (Some (n % 2 ^ 32)) os ≡ cond (list_any is_skipped os) None (Some ((n + records_in os) % 2 ^ 32))
due_from n [] = ap (λ m. Some (m % 2 ^ 32)) (omega arith)
due_from n (Touched ∷ os) = due_from n os
due_from n (Skipped reason ∷ os) = none_after os
due_from n (Empty ∷ os) = due_from n os
due_from n (Decoded d ∷ os) =
    ap (λ m. due_after (Some m) os) (mod_early n (length d.records) (2 ^ 32))
    ∙ (due_from (n + length d.records) os ∙ by_first (list_any is_skipped os) n (length d.records) (records_in (Decoded d ∷ os)) (records_in os) (records_first d os))

-- Behind all sets of a message that number is due which the definition gives.
pub due_is : (sequence : ℕ) (os : List Outcome) → due_after (next_number sequence []) os ≡ next_number sequence os
due_is sequence os = ap (λ m. due_after (Some (m % 2 ^ 32)) os) (omega arith) ∙ due_from sequence os
