-- What makes the texts of outputs, one more.
use Rattle.std.proofs.Common.{◌≡◌, ℕ, ◌+◌, ◌<◌, List, [], ◌∷◌, ◌++◌, length, take, get_or, sym, subst, ◌∙◌, arith}
use Rattle.std.proofs.lemmas.List.{length-take-le, take_more}
use Rattle.config_spec.specs.declared.conf.OutputConf.{OutputConf}
use Rattle.text_spec.specs.declared.element.Element.{Element}
use Rattle.call_spec.specs.Pairs.{Each}
use Rattle.call_spec.proofs.PairLemmas.{more}
use Rattle.output_texts.specs.declared.texts.OutputTexts.{OutputTexts}
use Rattle.output_texts.specs.Texts.{Stands}
use Rattle.collect_call.specs.Runs.{AreMade}

pub one_more_made : (rows : List Element) (outputs : List OutputConf) (i : ℕ) (d x : OutputConf) (texts now : List OutputTexts) → i < length outputs → x ≡ get_or outputs i d → AreMade rows (take i outputs) texts
    → (t : OutputTexts) × (now ≡ texts ++ t ∷ []) × Stands x rows [] t → AreMade rows (take (i + 1) outputs) now
one_more_made rows outputs i d x texts now lt is made pushed =
    let long : length (take i outputs) ≡ i = length-take-le i outputs (omega (arith, lt)) in
    let here : Stands (get_or outputs i d) rows [] pushed.0 = subst (λ (o : OutputConf). Stands o rows [] pushed.0) is pushed.2 in
    subst (λ (l : List OutputConf). AreMade rows l now) (sym (take_more outputs i d lt))
    (subst (λ (l : List OutputTexts). AreMade rows (take i outputs ++ get_or outputs i d ∷ []) l) (sym pushed.1)
    (more (λ _ output t. Stands output rows [] t) 0 i (take i outputs) texts (get_or outputs i d) pushed.0 (omega (arith, long)) made here))
