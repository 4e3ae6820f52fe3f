-- The digits of an octet are its decimal text.
use Rattle.std.proofs.Common.{◌≡◌, ℕ, zero, suc, ◌<◌, ◌≤◌, ◌⊎◌, inl, inr, Bool, true, ◌&&◌, List, [], ◌∷◌, ◌++◌, length, get_or, refl, ap, sym, ◌∙◌, arith, append_assoc, append-nil}
use Rattle.std.specs.Prelude.{decimal, nat_eq, nat_lt, ◌≢◌}
use Rattle.std.specs.Fmt.{digits}
use Rattle.std.specs.List.{join_by}
use Rattle.std.specs.Str.{bytes_eq}
use Rattle.std.proofs.lemmas.Slice.Eq.{bytes_eq-Decides}
use Rattle.std.proofs.lemmas.Bool.{and_parts, cases_Bool, both_ways, eq-eqb, eqb-true}
use Rattle.text_spec.specs.Marks.{quote, dot}
use Rattle.text_spec.specs.Value.{quoted}
use Rattle.value_text.specs.Dotted.{octet_digits, dotted}

-- so many numbers have their digits
have_digits : ℕ → Bool
have_digits zero = true
have_digits (suc n) = bytes_eq (decimal n) (octet_digits n) && have_digits n

octets_have : have_digits 256 ≡ true
unfolding have_digits digits
octets_have = refl

pub below_or_last : (n k : ℕ) → n < suc k → (n ≡ k) ⊎ (n < k)
below_or_last n k lt =
    elim (cases_Bool (nat_eq n k)) [
      | inl e ↦ inl (eqb-true n k e)
      | inr e ↦ inr (let ne : n ≢ k = λ s. both_ways (nat_eq n k) e (eq-eqb n k s) in omega arith)
    ]

each_has : (k n : ℕ) → have_digits k ≡ true → n < k → decimal n ≡ octet_digits n
unfolding have_digits
each_has zero n all lt = absurd (omega arith)
each_has (suc k) n all lt =
    let parts = and_parts _ _ all in
    elim (below_or_last n k lt) [
      | inl e ↦ (bytes_eq-Decides (decimal n) (octet_digits n)).0 (ap (λ m. bytes_eq (decimal m) (octet_digits m)) e ∙ parts.0)
      | inr l ↦ each_has k n parts.1 l
    ]

pub digits_of_octet : (n : ℕ) → n < 256 → decimal n ≡ octet_digits n
digits_of_octet n lt = each_has 256 n octets_have lt

-- the pieces of an address
pieces : (a b c d : List ℕ) → 34 ∷ (a ++ 46 ∷ []) ++ (b ++ 46 ∷ []) ++ (c ++ 46 ∷ []) ++ (d ++ 34 ∷ []) ≡ 34 ∷ (a ++ (46 ∷ b ++ (46 ∷ c ++ (46 ∷ d ++ []))) ++ 34 ∷ [])
pieces a b c d =
    let left : 34 ∷ (a ++ 46 ∷ []) ++ (b ++ 46 ∷ []) ++ (c ++ 46 ∷ []) ++ (d ++ 34 ∷ []) ≡ 34 ∷ (a ++ (46 ∷ (b ++ (46 ∷ (c ++ (46 ∷ (d ++ 34 ∷ []))))))) =
    ap (λ l. 34 ∷ l)
    (append_assoc ((a ++ 46 ∷ []) ++ (b ++ 46 ∷ [])) (c ++ 46 ∷ []) (d ++ 34 ∷ []) ∙ (ap (λ l. ((a ++ 46 ∷ []) ++ (b ++ 46 ∷ [])) ++ l) (append_assoc c (46 ∷ []) (d ++ 34 ∷ []))
    ∙ (append_assoc (a ++ 46 ∷ []) (b ++ 46 ∷ []) (c ++ (46 ∷ (d ++ 34 ∷ []))) ∙ (ap (λ l. (a ++ 46 ∷ []) ++ l) (append_assoc b (46 ∷ []) (c ++ (46 ∷ (d ++ 34 ∷ []))))
    ∙ append_assoc a (46 ∷ []) (b ++ (46 ∷ (c ++ (46 ∷ (d ++ 34 ∷ []))))))))) in
    let right : (a ++ (46 ∷ b ++ (46 ∷ c ++ (46 ∷ d ++ [])))) ++ 34 ∷ [] ≡ a ++ (46 ∷ (b ++ (46 ∷ (c ++ (46 ∷ (d ++ 34 ∷ [])))))) =
    append_assoc a (46 ∷ b ++ (46 ∷ c ++ (46 ∷ d ++ []))) (34 ∷ []) ∙ ap (λ l. a ++ (46 ∷ l))
    (append_assoc b (46 ∷ c ++ (46 ∷ d ++ [])) (34 ∷ []) ∙ ap (λ l. b ++ (46 ∷ l))
    (append_assoc c (46 ∷ d ++ []) (34 ∷ []) ∙ ap (λ l. c ++ (46 ∷ l)) (ap (λ l. l ++ 34 ∷ []) (append-nil d)))) in
    left ∙ ap (λ l. 34 ∷ l) (sym right)

four_parts : (a b c d : ℕ) → a < 256 → b < 256 → c < 256 → d < 256 → dotted a b c d ≡ quoted (join_by decimal dot (a ∷ b ∷ c ∷ d ∷ []))
unfolding dot quote
four_parts a b c d p q r s =
    pieces (octet_digits a) (octet_digits b) (octet_digits c) (octet_digits d)
    ∙ (ap (λ x. 34 ∷ (x ++ (46 ∷ octet_digits b ++ (46 ∷ octet_digits c ++ (46 ∷ octet_digits d ++ []))) ++ 34 ∷ [])) (sym (digits_of_octet a p))
    ∙ (ap (λ x. 34 ∷ (decimal a ++ (46 ∷ x ++ (46 ∷ octet_digits c ++ (46 ∷ octet_digits d ++ []))) ++ 34 ∷ [])) (sym (digits_of_octet b q))
    ∙ (ap (λ x. 34 ∷ (decimal a ++ (46 ∷ decimal b ++ (46 ∷ x ++ (46 ∷ octet_digits d ++ []))) ++ 34 ∷ [])) (sym (digits_of_octet c r))
    ∙ ap (λ x. 34 ∷ (decimal a ++ (46 ∷ decimal b ++ (46 ∷ decimal c ++ (46 ∷ x ++ []))) ++ 34 ∷ [])) (sym (digits_of_octet d s)))))

pub address_dotted : (value : List ℕ) → length value ≡ 4 → ((i : ℕ) → get_or value i 0 < 256)
    → dotted (get_or value 0 0) (get_or value 1 0) (get_or value 2 0) (get_or value 3 0) ≡ quoted (join_by decimal dot value)
address_dotted [] four fits = absurd (omega arith)
address_dotted (a ∷ []) four fits = absurd (omega arith)
address_dotted (a ∷ b ∷ []) four fits = absurd (omega arith)
address_dotted (a ∷ b ∷ c ∷ []) four fits = absurd (omega arith)
address_dotted (a ∷ b ∷ c ∷ d ∷ x ∷ value) four fits = absurd (omega arith)
address_dotted (a ∷ b ∷ c ∷ d ∷ []) four fits = four_parts a b c d (fits 0) (fits 1) (fits 2) (fits 3)

pub at_most_three : (n : ℕ) → length (octet_digits n) ≤ 3
at_most_three n = elim (cases_Bool (nat_lt n 10)) [
  | inl a ↦ rw a (omega arith)
  | inr a ↦ elim (cases_Bool (nat_lt n 100)) [
    | inl b ↦ rw (a, b) (omega arith)
    | inr b ↦ rw (a, b) (omega arith)
  ]
]
