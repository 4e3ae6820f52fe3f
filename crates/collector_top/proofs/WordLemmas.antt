-- What follows the start of a word.
use Rattle.std.proofs.Common.{◌≡◌, ℕ, true, inl, inr, List, ◌++◌, length, take, drop, Option, Some, None, Bor, refl, ap, sym, ◌∙◌, take-append-drop}
use Rattle.std.specs.Prelude.{MatchOption, bytes_eq}
use Rattle.std.proofs.Math.Seq.{take-append_seam}
use Rattle.std.proofs.lemmas.Bool.{cases_Bool}
use Rattle.std.proofs.lemmas.Slice.Eq.{bytes_eq-Decides}
use Rattle.std.specs.Str.Pattern.{FindsTextPrefix, StripsPrefix}
use Rattle.words_spec.specs.Names.{rest_of}

pub rest_stripped : (start word : List ℕ) (r : Option (Bor (List ℕ))) → MatchOption r (FindsTextPrefix start word None) (λ x. StripsPrefix (FindsTextPrefix start) word x.now)
    → MatchOption r (rest_of start word ≡ None) (λ rest. rest_of start word ≡ Some rest.now)
rest_stripped start word None lacks = elim (cases_Bool (bytes_eq (take (length start) word) start)) [
  | inl same ↦
      (let is = (bytes_eq-Decides (take (length start) word) start).0 same in
      absurd (lacks (drop (length start) word) (sym (take-append-drop (length start) word) ∙ ap (λ f. f ++ drop (length start) word) is)))
  | inr differs ↦ rw differs refl
]
rest_stripped start word (Some x) strips =
    let is : take (length start) word ≡ start = ap (λ w. take (length start) w) strips.1.1 ∙ take-append_seam start (drop strips.0 word) in
    let same : bytes_eq (take (length start) word) start ≡ true = (bytes_eq-Decides (take (length start) word) start).1 is in
    rw same (ap (λ (w : List ℕ). Some w) (ap (λ n. drop n word) (sym strips.1.0) ∙ sym strips.2))
