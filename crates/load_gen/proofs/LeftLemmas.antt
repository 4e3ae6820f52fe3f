-- At the beginning all messages are left.
use Rattle.std.proofs.Common.{◌≡◌, ℕ, zero, suc, ◌+◌, ◌-◌, [], ◌∷◌, ◌++◌, ap, sym, ◌∙◌, append_assoc, add-zero, arith}
use Rattle.std.proofs.lemmas.List.{append-nil, map-append}
use Rattle.std.proofs.lemmas.List.Sums.{sum_by_push}
use Rattle.arrival_spec.specs.Numbers.{first_numbers}
use Rattle.load_spec.specs.Draws.{state_after}
use Rattle.load_spec.specs.Load.{draws_before, load_message, load_messages, place_in_domain, records_size_at}
use Rattle.load_spec.proofs.DrawLemmas.{state_joined}
use Rattle.load_gen.specs.Left.{messages_from}

before_more : (number i : ℕ) → state_after (records_size_at (place_in_domain i)) (state_after (draws_before i) number) ≡ state_after (draws_before (suc i)) number
before_more number i =
    sym (state_joined (draws_before i) (records_size_at (place_in_domain i)) number)
    ∙ ap (λ n. state_after n number) (sym (sum_by_push (λ k. records_size_at (place_in_domain k)) (first_numbers i) i))

-- the messages before message i, and so many from there on
from_there : (number n i : ℕ) → load_messages number i ++ messages_from n i (state_after (draws_before i) number) ≡ load_messages number (i + n)
from_there number zero i = append-nil (load_messages number i) ∙ ap (load_messages number) (sym (add-zero i))
from_there number (suc n) i =
    let one : i + 1 ≡ suc i = omega arith in
    let e : suc i + n ≡ i + suc n = omega arith in
    ap (λ l. load_messages number i ++ load_message number i ∷ l) (ap (λ k. messages_from n k (state_after (records_size_at (place_in_domain i)) (state_after (draws_before i) number))) one ∙ ap (messages_from n (suc i)) (before_more number i))
    ∙ (sym (append_assoc (load_messages number i) (load_message number i ∷ []) (messages_from n (suc i) (state_after (draws_before (suc i)) number)))
    ∙ (ap (λ l. l ++ messages_from n (suc i) (state_after (draws_before (suc i)) number)) (sym (map-append (load_message number) (first_numbers i) (i ∷ [])))
    ∙ (from_there number n (suc i) ∙ ap (load_messages number) e)))

pub all_left : (number count : ℕ) → messages_from (count - 0) 0 number ≡ load_messages number count
all_left number count =
    let e : count - 0 ≡ count = omega arith in
    let z : 0 + count ≡ count = omega arith in
    ap (λ n. messages_from n 0 number) e ∙ (from_there number count 0 ∙ ap (load_messages number) z)
