-- The zero octets at the end of a text.
use Rattle.std.proofs.Common.{◌≡◌, ◌≢◌, ℕ, ◌+◌, ◌-◌, ◌≤◌, List, [], ◌∷◌, ◌++◌, length, take, reverse, ap, ◌∙◌, arith, length-append, ne_eqb, take_all, cond, ◌==◌}
use Rattle.std.proofs.lemmas.List.Sums.{suffix_len-le-length}
use Rattle.std.specs.List.{suffix_len, prefix_len}
use Rattle.std.proofs.lemmas.List.{reverse-append, take-append-le}
use Rattle.text_spec.specs.Laws.{ZerosAreCut, OthersStay}

-- the zeros at the end, with one octet more
end_zero : (octets : List ℕ) → suffix_len (λ octet. octet == 0) (octets ++ 0 ∷ []) ≡ 1 + suffix_len (λ octet. octet == 0) octets
end_zero octets = ap (prefix_len (λ octet. octet == 0)) (reverse-append octets (0 ∷ []))

end_other : (octets : List ℕ) (octet : ℕ) → octet ≢ 0 → suffix_len (λ octet. octet == 0) (octets ++ octet ∷ []) ≡ 0
end_other octets octet other = ap (prefix_len (λ octet. octet == 0)) (reverse-append octets (octet ∷ []))
    ∙ ap (λ b. cond b (1 + prefix_len (λ octet. octet == 0) (reverse octets)) 0) (ne_eqb octet 0 other)

pub zeros_are_cut : ZerosAreCut
zeros_are_cut octets =
    let end : suffix_len (λ octet. octet == 0) octets ≤ length octets = suffix_len-le-length (λ octet. octet == 0) octets in
    let count : length (octets ++ 0 ∷ []) - suffix_len (λ octet. octet == 0) (octets ++ 0 ∷ []) ≡ length octets - suffix_len (λ octet. octet == 0) octets
    = rw (end_zero octets) (omega (arith, length-append {A = ℕ})) in
    ap (λ n. take n (octets ++ 0 ∷ [])) count ∙ take-append-le (length octets - suffix_len (λ octet. octet == 0) octets) octets (0 ∷ []) (omega arith)

pub others_stay : OthersStay
others_stay octets octet other =
    ap (λ n. take (length (octets ++ octet ∷ []) - n) (octets ++ octet ∷ [])) (end_other octets octet other) ∙ take_all _ _ (omega arith)
