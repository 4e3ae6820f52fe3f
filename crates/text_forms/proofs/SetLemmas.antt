-- The text of sets, one after another.
use Rattle.std.proofs.Common.{◌≡◌, ℕ, ◌+◌, List, [], ◌∷◌, ◌++◌, length, ap, sym, ◌∙◌, append_assoc, append-nil, zero-add, refl}
use Rattle.std.specs.List.{flat_map}
use Rattle.std.proofs.lemmas.Grind.{flat_map-append}
use Rattle.std.proofs.lemmas.List.Sums.{sum_by-append}
use Rattle.run_spec.specs.Outcome.{DecodedSet}
use Rattle.run_spec.specs.View.{count_records}
use Rattle.text_forms.specs.Made.{Made}
use Rattle.text_forms.specs.Kind.{set_text}
use Rattle.text_forms.specs.Puts.{PutsSet, PutsSets}

count_one : (d : DecodedSet) → count_records (d ∷ []) ≡ length d.records
count_one d = zero-add (length d.records)

pub puts_none : (made : Made) (before now : List ℕ) → now ≡ before → PutsSets made [] before now 0
puts_none made before now same = record { text = same ∙ sym (append-nil before); counted = refl }

-- one set more
pub puts_more : (made : Made) (sets : List DecodedSet) (d : DecodedSet) (before now later : List ℕ) (count more : ℕ) → PutsSets made sets before now count → PutsSet made d now later more
    → PutsSets made (sets ++ d ∷ []) before later (count + more)
puts_more made sets d before now later count more p q =
    let f = set_text made.kind made.elements in
    let texts : flat_map f (sets ++ d ∷ []) ≡ flat_map f sets ++ f d = flat_map-append f sets (d ∷ []) ∙ ap (λ (t : List ℕ). flat_map f sets ++ t) (append-nil (f d)) in record {
      text = q.text ∙ (ap (λ (t : List ℕ). t ++ f d) p.text ∙ (append_assoc before (flat_map f sets) (f d) ∙ ap (λ (t : List ℕ). before ++ t) (sym texts)));
      counted = ap (λ n. n + more) p.counted ∙ (ap (λ n. count_records sets + n) (q.counted ∙ sym (count_one d)) ∙ sym (sum_by-append (λ (s : DecodedSet). length s.records) sets (d ∷ [])));
    }
