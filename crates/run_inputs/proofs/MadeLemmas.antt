-- Laws of inputs and their sources.
use Rattle.std.proofs.Common.{◌≡◌, ℕ, List, [], ◌∷◌, ◌++◌, Option, length, reverse, ap, sym, subst, ◌∙◌, append_assoc, arith}
use Rattle.std.proofs.lemmas.List.{length-map, map-append, reverse-append, reverse-reverse}
use Rattle.arrival_spec.specs.declared.event.Scripted.{Scripted}
use Rattle.config_spec.specs.declared.conf.Conf.{Conf}
use Rattle.result_spec.specs.Result.{inputs_of}
use Rattle.call_spec.proofs.PairLemmas.{more}
use Rattle.run_input.specs.declared.input.Input.{Input}
use Rattle.run_input.specs.Inputs.{HasGiven}
use Rattle.run_inputs.specs.Made.{AreMade, sources_of}

module _ {S : Type 0} where
  pub one_source : (xs ys : List (Input S)) (x : Input S) (s : S) → ys ≡ xs ++ x ∷ [] → x.inlet.source ≡ s → sources_of ys ≡ sources_of xs ++ s ∷ []
  one_source xs ys x s is same = ap sources_of is ∙ (map-append (λ (i : Input S). i.inlet.source) xs (x ∷ []) ∙ ap (λ t. sources_of xs ++ t ∷ []) same)

  -- the source of the last input went behind others
  pub one_back : (ss now : List S) (xs ys : List (Input S)) (x : Input S) (s : S) → now ≡ ss ++ s ∷ [] → s ≡ x.inlet.source → ys ≡ xs ++ x ∷ [] → now ++ reverse (sources_of xs) ≡ ss ++ reverse (sources_of ys)
  one_back ss now xs ys x s put same is =
      let turned : reverse (sources_of ys) ≡ s ∷ reverse (sources_of xs) = ap reverse (one_source xs ys x s is (sym same)) ∙ reverse-append (sources_of xs) (s ∷ []) in
      ap (λ l. l ++ reverse (sources_of xs)) put ∙ (append_assoc ss (s ∷ []) (reverse (sources_of xs)) ∙ ap (λ l. ss ++ l) (sym turned))

  -- an input more was made, over the last of the sources
  pub one_front : (all : List S) (xs ys : List (Input S)) (ss now : List S) (x : Input S) (s : S) → ys ≡ xs ++ x ∷ [] → ss ≡ now ++ s ∷ [] → x.inlet.source ≡ s → all ≡ sources_of xs ++ reverse ss → all ≡ sources_of ys ++ reverse now
  one_front all xs ys ss now x s is last same front =
      front ∙ (ap (λ l. sources_of xs ++ l) (ap reverse last ∙ reverse-append now (s ∷ [])) ∙ (sym (append_assoc (sources_of xs) (s ∷ []) (reverse now)) ∙ ap (λ l. l ++ reverse now) (sym (one_source xs ys x s is same))))

  -- all sources are back, in order
  pub all_back : (old now turned given : List S) (xs : List (Input S)) → turned ≡ reverse old → reverse turned ≡ sources_of xs ++ reverse now → given ≡ now ++ reverse (sources_of xs) → reverse given ≡ old
  all_back old now turned given xs is front put =
      ap reverse put ∙ (reverse-append now (reverse (sources_of xs)) ∙ (ap (λ l. l ++ reverse now) (reverse-reverse (sources_of xs)) ∙ (sym front ∙ (ap reverse is ∙ reverse-reverse old))))

  module _ (left : S → Option (List Scripted)) (faults : S → ℕ) where
    pub one_made : (conf : Conf) (xs ys : List (Input S)) (x : Input S) (s : S) (m : ℕ) → ys ≡ xs ++ x ∷ [] → x.inlet.source ≡ s → m ≡ length xs → HasGiven left faults s (inputs_of conf m) m [] [] x
        → AreMade left faults conf (sources_of xs) xs → AreMade left faults conf (sources_of ys) ys
    one_made conf xs ys x s m is same number has made =
        let P = λ (k : ℕ) (first : S) (i : Input S). HasGiven left faults first (inputs_of conf k) k [] [] i in
        let long = length-map xs (λ (i : Input S). i.inlet.source) in
        subst (λ l. AreMade left faults conf (sources_of ys) l) (sym is) (subst (λ l. AreMade left faults conf l (xs ++ x ∷ [])) (sym (one_source xs ys x s is same))
        (more P 0 m (sources_of xs) xs s x (omega (arith, number, long)) made has))
