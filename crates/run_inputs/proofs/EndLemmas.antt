-- Laws of the ends of inputs.
use Rattle.std.proofs.Common.{◌≡◌, ℕ, ◌+◌, ◌<◌, List, [], ◌∷◌, ◌++◌, length, map, take, get_or, slice_set, ap, sym, ◌∙◌}
use Rattle.std.proofs.lemmas.List.{map-append, take_more, take_more_set}
use Rattle.call_spec.specs.declared.end.InputEnd.{InputEnd}
use Rattle.run_input.specs.declared.input.Input.{Input}
use Rattle.run_entries.specs.Came.{end_or}

-- how one input more ended was noted
pub one_noted : {S : Type 0} (ends : List InputEnd) (xs : List (Input S)) (i : ℕ) (x : Input S) (e : InputEnd) → i < length ends → i < length xs → x ≡ get_or xs i x → e ≡ end_or x.end
    → take i ends ≡ map (λ (y : Input S). end_or y.end) (take i xs) → take (i + 1) (slice_set ends i e) ≡ map (λ (y : Input S). end_or y.end) (take (i + 1) xs)
one_noted {S} ends xs i x e fits there is same front =
    let end = λ (y : Input S). end_or y.end in
    take_more_set ends i e fits ∙ (ap (λ l. l ++ e ∷ []) front ∙ (ap (λ d. map end (take i xs) ++ d ∷ []) (same ∙ ap end is) ∙ (sym (map-append end (take i xs) (get_or xs i x ∷ [])) ∙ ap (map end) (sym (take_more xs i x there)))))
