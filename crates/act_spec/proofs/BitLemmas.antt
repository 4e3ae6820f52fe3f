-- The bits of changed addresses.
use Rattle.std.proofs.Common.{◌≡◌, ℕ, zero, suc, ◌-◌, ◌^◌, List, [], ◌∷◌, ◌++◌, length, refl, ap, ◌∙◌, map, take, drop, arith}
use Rattle.std.specs.Prelude.{◌/◌, ◌%◌, min}
use Rattle.std.proofs.Math.Nat.{zero-mod}
use Rattle.config_spec.specs.Texts.{top_bits, masked}
use Rattle.act_spec.specs.Bits.{octet_with, in_place, octet_bits, bits_of}

mixed_0 : (f o : ℕ) → octet_bits (octet_with 0 f o) ≡ o / 128 % 2 ∷ o / 64 % 2 ∷ o / 32 % 2 ∷ o / 16 % 2 ∷ o / 8 % 2 ∷ o / 4 % 2 ∷ o / 2 % 2 ∷ o % 2 ∷ []
mixed_0 f o =
    let e0 : (octet_with 0 f o) / 128 % 2 ≡ o / 128 % 2 = omega arith in
    let e1 : (octet_with 0 f o) / 64 % 2 ≡ o / 64 % 2 = omega arith in
    let e2 : (octet_with 0 f o) / 32 % 2 ≡ o / 32 % 2 = omega arith in
    let e3 : (octet_with 0 f o) / 16 % 2 ≡ o / 16 % 2 = omega arith in
    let e4 : (octet_with 0 f o) / 8 % 2 ≡ o / 8 % 2 = omega arith in
    let e5 : (octet_with 0 f o) / 4 % 2 ≡ o / 4 % 2 = omega arith in
    let e6 : (octet_with 0 f o) / 2 % 2 ≡ o / 2 % 2 = omega arith in
    let e7 : (octet_with 0 f o) % 2 ≡ o % 2 = omega arith in
    cc

mixed_1 : (f o : ℕ) → octet_bits (octet_with 1 f o) ≡ f / 128 % 2 ∷ o / 64 % 2 ∷ o / 32 % 2 ∷ o / 16 % 2 ∷ o / 8 % 2 ∷ o / 4 % 2 ∷ o / 2 % 2 ∷ o % 2 ∷ []
mixed_1 f o =
    let e0 : (octet_with 1 f o) / 128 % 2 ≡ f / 128 % 2 = omega arith in
    let e1 : (octet_with 1 f o) / 64 % 2 ≡ o / 64 % 2 = omega arith in
    let e2 : (octet_with 1 f o) / 32 % 2 ≡ o / 32 % 2 = omega arith in
    let e3 : (octet_with 1 f o) / 16 % 2 ≡ o / 16 % 2 = omega arith in
    let e4 : (octet_with 1 f o) / 8 % 2 ≡ o / 8 % 2 = omega arith in
    let e5 : (octet_with 1 f o) / 4 % 2 ≡ o / 4 % 2 = omega arith in
    let e6 : (octet_with 1 f o) / 2 % 2 ≡ o / 2 % 2 = omega arith in
    let e7 : (octet_with 1 f o) % 2 ≡ o % 2 = omega arith in
    cc

mixed_2 : (f o : ℕ) → octet_bits (octet_with 2 f o) ≡ f / 128 % 2 ∷ f / 64 % 2 ∷ o / 32 % 2 ∷ o / 16 % 2 ∷ o / 8 % 2 ∷ o / 4 % 2 ∷ o / 2 % 2 ∷ o % 2 ∷ []
mixed_2 f o =
    let e0 : (octet_with 2 f o) / 128 % 2 ≡ f / 128 % 2 = omega arith in
    let e1 : (octet_with 2 f o) / 64 % 2 ≡ f / 64 % 2 = omega arith in
    let e2 : (octet_with 2 f o) / 32 % 2 ≡ o / 32 % 2 = omega arith in
    let e3 : (octet_with 2 f o) / 16 % 2 ≡ o / 16 % 2 = omega arith in
    let e4 : (octet_with 2 f o) / 8 % 2 ≡ o / 8 % 2 = omega arith in
    let e5 : (octet_with 2 f o) / 4 % 2 ≡ o / 4 % 2 = omega arith in
    let e6 : (octet_with 2 f o) / 2 % 2 ≡ o / 2 % 2 = omega arith in
    let e7 : (octet_with 2 f o) % 2 ≡ o % 2 = omega arith in
    cc

mixed_3 : (f o : ℕ) → octet_bits (octet_with 3 f o) ≡ f / 128 % 2 ∷ f / 64 % 2 ∷ f / 32 % 2 ∷ o / 16 % 2 ∷ o / 8 % 2 ∷ o / 4 % 2 ∷ o / 2 % 2 ∷ o % 2 ∷ []
mixed_3 f o =
    let e0 : (octet_with 3 f o) / 128 % 2 ≡ f / 128 % 2 = omega arith in
    let e1 : (octet_with 3 f o) / 64 % 2 ≡ f / 64 % 2 = omega arith in
    let e2 : (octet_with 3 f o) / 32 % 2 ≡ f / 32 % 2 = omega arith in
    let e3 : (octet_with 3 f o) / 16 % 2 ≡ o / 16 % 2 = omega arith in
    let e4 : (octet_with 3 f o) / 8 % 2 ≡ o / 8 % 2 = omega arith in
    let e5 : (octet_with 3 f o) / 4 % 2 ≡ o / 4 % 2 = omega arith in
    let e6 : (octet_with 3 f o) / 2 % 2 ≡ o / 2 % 2 = omega arith in
    let e7 : (octet_with 3 f o) % 2 ≡ o % 2 = omega arith in
    cc

mixed_4 : (f o : ℕ) → octet_bits (octet_with 4 f o) ≡ f / 128 % 2 ∷ f / 64 % 2 ∷ f / 32 % 2 ∷ f / 16 % 2 ∷ o / 8 % 2 ∷ o / 4 % 2 ∷ o / 2 % 2 ∷ o % 2 ∷ []
mixed_4 f o =
    let e0 : (octet_with 4 f o) / 128 % 2 ≡ f / 128 % 2 = omega arith in
    let e1 : (octet_with 4 f o) / 64 % 2 ≡ f / 64 % 2 = omega arith in
    let e2 : (octet_with 4 f o) / 32 % 2 ≡ f / 32 % 2 = omega arith in
    let e3 : (octet_with 4 f o) / 16 % 2 ≡ f / 16 % 2 = omega arith in
    let e4 : (octet_with 4 f o) / 8 % 2 ≡ o / 8 % 2 = omega arith in
    let e5 : (octet_with 4 f o) / 4 % 2 ≡ o / 4 % 2 = omega arith in
    let e6 : (octet_with 4 f o) / 2 % 2 ≡ o / 2 % 2 = omega arith in
    let e7 : (octet_with 4 f o) % 2 ≡ o % 2 = omega arith in
    cc

mixed_5 : (f o : ℕ) → octet_bits (octet_with 5 f o) ≡ f / 128 % 2 ∷ f / 64 % 2 ∷ f / 32 % 2 ∷ f / 16 % 2 ∷ f / 8 % 2 ∷ o / 4 % 2 ∷ o / 2 % 2 ∷ o % 2 ∷ []
mixed_5 f o =
    let e0 : (octet_with 5 f o) / 128 % 2 ≡ f / 128 % 2 = omega arith in
    let e1 : (octet_with 5 f o) / 64 % 2 ≡ f / 64 % 2 = omega arith in
    let e2 : (octet_with 5 f o) / 32 % 2 ≡ f / 32 % 2 = omega arith in
    let e3 : (octet_with 5 f o) / 16 % 2 ≡ f / 16 % 2 = omega arith in
    let e4 : (octet_with 5 f o) / 8 % 2 ≡ f / 8 % 2 = omega arith in
    let e5 : (octet_with 5 f o) / 4 % 2 ≡ o / 4 % 2 = omega arith in
    let e6 : (octet_with 5 f o) / 2 % 2 ≡ o / 2 % 2 = omega arith in
    let e7 : (octet_with 5 f o) % 2 ≡ o % 2 = omega arith in
    cc

mixed_6 : (f o : ℕ) → octet_bits (octet_with 6 f o) ≡ f / 128 % 2 ∷ f / 64 % 2 ∷ f / 32 % 2 ∷ f / 16 % 2 ∷ f / 8 % 2 ∷ f / 4 % 2 ∷ o / 2 % 2 ∷ o % 2 ∷ []
mixed_6 f o =
    let e0 : (octet_with 6 f o) / 128 % 2 ≡ f / 128 % 2 = omega arith in
    let e1 : (octet_with 6 f o) / 64 % 2 ≡ f / 64 % 2 = omega arith in
    let e2 : (octet_with 6 f o) / 32 % 2 ≡ f / 32 % 2 = omega arith in
    let e3 : (octet_with 6 f o) / 16 % 2 ≡ f / 16 % 2 = omega arith in
    let e4 : (octet_with 6 f o) / 8 % 2 ≡ f / 8 % 2 = omega arith in
    let e5 : (octet_with 6 f o) / 4 % 2 ≡ f / 4 % 2 = omega arith in
    let e6 : (octet_with 6 f o) / 2 % 2 ≡ o / 2 % 2 = omega arith in
    let e7 : (octet_with 6 f o) % 2 ≡ o % 2 = omega arith in
    cc

mixed_7 : (f o : ℕ) → octet_bits (octet_with 7 f o) ≡ f / 128 % 2 ∷ f / 64 % 2 ∷ f / 32 % 2 ∷ f / 16 % 2 ∷ f / 8 % 2 ∷ f / 4 % 2 ∷ f / 2 % 2 ∷ o % 2 ∷ []
mixed_7 f o =
    let e0 : (octet_with 7 f o) / 128 % 2 ≡ f / 128 % 2 = omega arith in
    let e1 : (octet_with 7 f o) / 64 % 2 ≡ f / 64 % 2 = omega arith in
    let e2 : (octet_with 7 f o) / 32 % 2 ≡ f / 32 % 2 = omega arith in
    let e3 : (octet_with 7 f o) / 16 % 2 ≡ f / 16 % 2 = omega arith in
    let e4 : (octet_with 7 f o) / 8 % 2 ≡ f / 8 % 2 = omega arith in
    let e5 : (octet_with 7 f o) / 4 % 2 ≡ f / 4 % 2 = omega arith in
    let e6 : (octet_with 7 f o) / 2 % 2 ≡ f / 2 % 2 = omega arith in
    let e7 : (octet_with 7 f o) % 2 ≡ o % 2 = omega arith in
    cc

mixed_8 : (f o : ℕ) → octet_bits (octet_with 8 f o) ≡ f / 128 % 2 ∷ f / 64 % 2 ∷ f / 32 % 2 ∷ f / 16 % 2 ∷ f / 8 % 2 ∷ f / 4 % 2 ∷ f / 2 % 2 ∷ f % 2 ∷ []
mixed_8 f o =
    let e0 : (octet_with 8 f o) / 128 % 2 ≡ f / 128 % 2 = omega arith in
    let e1 : (octet_with 8 f o) / 64 % 2 ≡ f / 64 % 2 = omega arith in
    let e2 : (octet_with 8 f o) / 32 % 2 ≡ f / 32 % 2 = omega arith in
    let e3 : (octet_with 8 f o) / 16 % 2 ≡ f / 16 % 2 = omega arith in
    let e4 : (octet_with 8 f o) / 8 % 2 ≡ f / 8 % 2 = omega arith in
    let e5 : (octet_with 8 f o) / 4 % 2 ≡ f / 4 % 2 = omega arith in
    let e6 : (octet_with 8 f o) / 2 % 2 ≡ f / 2 % 2 = omega arith in
    let e7 : (octet_with 8 f o) % 2 ≡ f % 2 = omega arith in
    cc

-- The first bits are the other's, and those behind them stay.
pub bits_in_place : (n : ℕ) (first octets : List ℕ) → length first ≡ length octets → bits_of (in_place n first octets) ≡ take n (bits_of first) ++ drop n (bits_of octets)
bits_in_place zero [] [] e = refl
bits_in_place (suc zero) [] [] e = refl
bits_in_place (suc (suc zero)) [] [] e = refl
bits_in_place (suc (suc (suc zero))) [] [] e = refl
bits_in_place (suc (suc (suc (suc zero)))) [] [] e = refl
bits_in_place (suc (suc (suc (suc (suc zero))))) [] [] e = refl
bits_in_place (suc (suc (suc (suc (suc (suc zero)))))) [] [] e = refl
bits_in_place (suc (suc (suc (suc (suc (suc (suc zero))))))) [] [] e = refl
bits_in_place (suc (suc (suc (suc (suc (suc (suc (suc n)))))))) [] [] e = refl
bits_in_place n [] (o ∷ octets) e = absurd (omega arith)
bits_in_place n (f ∷ first) [] e = absurd (omega arith)
bits_in_place zero (f ∷ first) (o ∷ octets) e =
    ap (λ l. l ++ bits_of (in_place 0 first octets)) (mixed_0 f o) ∙ ap (λ l. o / 128 % 2 ∷ o / 64 % 2 ∷ o / 32 % 2 ∷ o / 16 % 2 ∷ o / 8 % 2 ∷ o / 4 % 2 ∷ o / 2 % 2 ∷ o % 2 ∷ l) (bits_in_place 0 first octets (omega arith))
bits_in_place (suc zero) (f ∷ first) (o ∷ octets) e =
    ap (λ l. l ++ bits_of (in_place 0 first octets)) (mixed_1 f o) ∙ ap (λ l. f / 128 % 2 ∷ o / 64 % 2 ∷ o / 32 % 2 ∷ o / 16 % 2 ∷ o / 8 % 2 ∷ o / 4 % 2 ∷ o / 2 % 2 ∷ o % 2 ∷ l) (bits_in_place 0 first octets (omega arith))
bits_in_place (suc (suc zero)) (f ∷ first) (o ∷ octets) e =
    ap (λ l. l ++ bits_of (in_place 0 first octets)) (mixed_2 f o) ∙ ap (λ l. f / 128 % 2 ∷ f / 64 % 2 ∷ o / 32 % 2 ∷ o / 16 % 2 ∷ o / 8 % 2 ∷ o / 4 % 2 ∷ o / 2 % 2 ∷ o % 2 ∷ l) (bits_in_place 0 first octets (omega arith))
bits_in_place (suc (suc (suc zero))) (f ∷ first) (o ∷ octets) e =
    ap (λ l. l ++ bits_of (in_place 0 first octets)) (mixed_3 f o) ∙ ap (λ l. f / 128 % 2 ∷ f / 64 % 2 ∷ f / 32 % 2 ∷ o / 16 % 2 ∷ o / 8 % 2 ∷ o / 4 % 2 ∷ o / 2 % 2 ∷ o % 2 ∷ l) (bits_in_place 0 first octets (omega arith))
bits_in_place (suc (suc (suc (suc zero)))) (f ∷ first) (o ∷ octets) e =
    ap (λ l. l ++ bits_of (in_place 0 first octets)) (mixed_4 f o) ∙ ap (λ l. f / 128 % 2 ∷ f / 64 % 2 ∷ f / 32 % 2 ∷ f / 16 % 2 ∷ o / 8 % 2 ∷ o / 4 % 2 ∷ o / 2 % 2 ∷ o % 2 ∷ l) (bits_in_place 0 first octets (omega arith))
bits_in_place (suc (suc (suc (suc (suc zero))))) (f ∷ first) (o ∷ octets) e =
    ap (λ l. l ++ bits_of (in_place 0 first octets)) (mixed_5 f o) ∙ ap (λ l. f / 128 % 2 ∷ f / 64 % 2 ∷ f / 32 % 2 ∷ f / 16 % 2 ∷ f / 8 % 2 ∷ o / 4 % 2 ∷ o / 2 % 2 ∷ o % 2 ∷ l) (bits_in_place 0 first octets (omega arith))
bits_in_place (suc (suc (suc (suc (suc (suc zero)))))) (f ∷ first) (o ∷ octets) e =
    ap (λ l. l ++ bits_of (in_place 0 first octets)) (mixed_6 f o) ∙ ap (λ l. f / 128 % 2 ∷ f / 64 % 2 ∷ f / 32 % 2 ∷ f / 16 % 2 ∷ f / 8 % 2 ∷ f / 4 % 2 ∷ o / 2 % 2 ∷ o % 2 ∷ l) (bits_in_place 0 first octets (omega arith))
bits_in_place (suc (suc (suc (suc (suc (suc (suc zero))))))) (f ∷ first) (o ∷ octets) e =
    ap (λ l. l ++ bits_of (in_place 0 first octets)) (mixed_7 f o) ∙ ap (λ l. f / 128 % 2 ∷ f / 64 % 2 ∷ f / 32 % 2 ∷ f / 16 % 2 ∷ f / 8 % 2 ∷ f / 4 % 2 ∷ f / 2 % 2 ∷ o % 2 ∷ l) (bits_in_place 0 first octets (omega arith))
bits_in_place (suc (suc (suc (suc (suc (suc (suc (suc n)))))))) (f ∷ first) (o ∷ octets) e =
    let least : min 8 (suc (suc (suc (suc (suc (suc (suc (suc n)))))))) ≡ 8 = omega arith in
    let left : (suc (suc (suc (suc (suc (suc (suc (suc n)))))))) - 8 ≡ n = omega arith in
    ap (λ k. octet_bits (octet_with k f o) ++ bits_of (in_place ((suc (suc (suc (suc (suc (suc (suc (suc n)))))))) - 8) first octets)) least
    ∙ (ap (λ k. octet_bits (octet_with 8 f o) ++ bits_of (in_place k first octets)) left
    ∙ (ap (λ l. l ++ bits_of (in_place n first octets)) (mixed_8 f o) ∙ ap (λ l. f / 128 % 2 ∷ f / 64 % 2 ∷ f / 32 % 2 ∷ f / 16 % 2 ∷ f / 8 % 2 ∷ f / 4 % 2 ∷ f / 2 % 2 ∷ f % 2 ∷ l) (bits_in_place n first octets (omega arith))))

abbrev no_octets : List ℕ → List ℕ
no_octets octets = map (λ (o : ℕ). 0) octets

same_mask : (n : ℕ) (octets : List ℕ) → masked n octets ≡ in_place n octets (no_octets octets)
same_mask n [] = refl
same_mask n (o ∷ octets) =
    let none = zero-mod (2 ^ (8 - min 8 n)) in
    let first : top_bits (min 8 n) o ≡ octet_with (min 8 n) o 0 = omega arith in
    ap (λ x. x ∷ masked (n - 8) octets) first ∙ ap (λ l. octet_with (min 8 n) o 0 ∷ l) (same_mask (n - 8) octets)

zeros : (octets : List ℕ) → bits_of (no_octets octets) ≡ map (λ (b : ℕ). 0) (bits_of octets)
zeros [] = refl
zeros (o ∷ octets) = ap (λ l. 0 ∷ 0 ∷ 0 ∷ 0 ∷ 0 ∷ 0 ∷ 0 ∷ 0 ∷ l) (zeros octets)

as_many : (octets : List ℕ) → length octets ≡ length (no_octets octets)
as_many [] = refl
as_many (o ∷ octets) = ap suc (as_many octets)

-- Behind the first bits are zeros.
pub bits_masked : (n : ℕ) (octets : List ℕ) → bits_of (masked n octets) ≡ take n (bits_of octets) ++ drop n (map (λ (b : ℕ). 0) (bits_of octets))
bits_masked n octets =
    ap bits_of (same_mask n octets)
    ∙ (bits_in_place n octets (no_octets octets) (as_many octets) ∙ ap (λ l. take n (bits_of octets) ++ drop n l) (zeros octets))
