-- Intermediates and what they are prepared to, side by side.
use Rattle.std.proofs.Common.{◌≡◌, ℕ, suc, ◌+◌, ◌<◌, List, [], ◌∷◌, length, drop, get_or, refl, ap, sym, subst, ◌∙◌}
use Rattle.std.proofs.lemmas.List.{drop_more, drop-drop}
use Rattle.wire_spec.specs.declared.field.FieldSpec.{FieldSpec}
use Rattle.config_spec.specs.declared.conf.StageWork.{StageWork}
use Rattle.stage_chain.specs.declared.stage.PreparedStage.{PreparedStage}
use Rattle.stage_chain.specs.Suits.{SuitsStage, AreSuited}

pub suited_length : (works : List StageWork) (fields : List FieldSpec) (prepared : List PreparedStage) → AreSuited works fields prepared → length prepared ≡ length works
suited_length [] fields [] s = refl
suited_length [] fields (p ∷ prepared) s = absurd s
suited_length (w ∷ works) fields [] s = absurd s
suited_length (w ∷ works) fields (p ∷ prepared) s = ap suc (suited_length works fields prepared s.1)

-- the first of the intermediates that are left, and what it is prepared to
pub record IsFirst (works : List StageWork) (fields : List FieldSpec) (prepared : List PreparedStage) (i : ℕ) (p : PreparedStage) : Type 0 where
  pub work : StageWork
  pub split : drop i works ≡ work ∷ drop (i + 1) works
  pub suits : SuitsStage work fields p
  pub rest : AreSuited (drop (i + 1) works) fields (drop (i + 1) prepared)

pub first_of : (works : List StageWork) (fields : List FieldSpec) (prepared : List PreparedStage) (i : ℕ) (p : PreparedStage) → i < length prepared → p ≡ get_or prepared i p → AreSuited (drop i works) fields (drop i prepared) → IsFirst works fields prepared i p
first_of works fields prepared i p lt is s =
    let head : drop i prepared ≡ p ∷ drop (i + 1) prepared = drop_more prepared i p lt ∙ ap (λ (q : PreparedStage). q ∷ drop (i + 1) prepared) (sym is) in
    by_works (drop i works) refl (subst (AreSuited (drop i works) fields) head s)
  where
    by_works : (left : List StageWork) → drop i works ≡ left → AreSuited left fields (p ∷ drop (i + 1) prepared) → IsFirst works fields prepared i p
    by_works [] e s = absurd s
    by_works (w ∷ left) e s =
        let rest : left ≡ drop (i + 1) works = sym (ap (drop 1) e) ∙ drop-drop 1 i works in
        record { work = w; split = e ∙ ap (λ (l : List StageWork). w ∷ l) rest; suits = s.0; rest = subst (λ (l : List StageWork). AreSuited l fields (drop (i + 1) prepared)) rest s.1 }

pub suited_none : (works : List StageWork) (fields : List FieldSpec) (prepared : List PreparedStage) → prepared ≡ [] → AreSuited works fields prepared → works ≡ []
suited_none works fields prepared none s = by_works works (subst (AreSuited works fields) none s)
  where
    by_works : (works : List StageWork) → AreSuited works fields [] → works ≡ []
    by_works [] s = refl
    by_works (w ∷ works) s = absurd s
