-- All outputs behind the intermediates, one message more.
use Rattle.std.proofs.Common.{◌≡◌, ℕ, zero, suc, ◌+◌, ◌<◌, Bool, true, false, List, [], ◌∷◌, ◌++◌, Option, Some, None, length, get_or, set, map, refl, ap, sym, subst, ◌∙◌, arith, append_assoc, append-nil}
use Rattle.std.specs.Prelude.{MatchOption, is_some}
use Rattle.std.proofs.lemmas.List.{length-map}
use Rattle.config_spec.specs.declared.conf.StageConf.{StageConf}
use Rattle.config_spec.specs.declared.conf.OutputConf.{OutputConf}
use Rattle.text_spec.specs.declared.element.Element.{Element}
use Rattle.run_spec.specs.Work.{Item}
use Rattle.result_spec.specs.Through.{items_through}
use Rattle.result_spec.proofs.MoreLemmas.{stages_append}
use Rattle.call_spec.specs.Pairs.{Each}
use Rattle.pipeline_message.specs.declared.message.Msg.{Msg}
use Rattle.pipeline_message.specs.Items.{items_of}
use Rattle.stage_chain.specs.Behind.{works_of}
use Rattle.message_stages.specs.Behind.{IsBehind}
use Rattle.logged_outputs.specs.declared.output.Output.{Output}
use Rattle.logged_outputs.specs.declared.outputs.Outputs.{Outputs}
use Rattle.logged_outputs.specs.Outputs.{PutsMessage}
use Rattle.logged_outputs.specs.Behind.{AllHave, AllPut, CutShort, HasFrom, ItemsWent, PutsItems}

-- ---- a list that is changed in place, one after another

module _ {A : Type 0} (R : A → A → Type 0) where
  -- so many of the first ones have changed
  abbrev pub Changed : ℕ → List A → List A → Type 0
  Changed zero xs ys = xs ≡ ys
  Changed (suc i) [] ys = ⊥
  Changed (suc i) (x ∷ xs) [] = ⊥
  Changed (suc i) (x ∷ xs) (y ∷ ys) = R x y × Changed i xs ys

  one_changed : (i : ℕ) (xs ys : List A) (d a b : A) → i < length ys → a ≡ get_or ys i d → R a b → Changed i xs ys → Changed (suc i) xs (set ys i b)
  one_changed i xs [] d a b lt is r c = absurd (omega arith)
  one_changed zero xs (y ∷ ys) d a b lt is r c = subst (λ (l : List A). Changed (suc zero) l (b ∷ ys)) (sym c) (subst (λ x. R x b) is r, refl)
  one_changed (suc i) [] (y ∷ ys) d a b lt is r c = absurd c
  one_changed (suc i) (x ∷ xs) (y ∷ ys) d a b lt is r c = (c.0, one_changed i xs ys d a b (omega arith) is r c.1)

  pub next_changed : (i m : ℕ) (xs ys : List A) (d a b : A) → i < length ys → m ≡ suc i → a ≡ get_or ys i d → R a b → Changed i xs ys → Changed m xs (set ys i b)
  next_changed i m xs ys d a b lt next is r c = subst (λ k. Changed k xs (set ys i b)) (sym next) (one_changed i xs ys d a b lt is r c)

  pub all_changed : (n i : ℕ) (xs ys : List A) → i ≡ length ys → Changed i xs ys → Each (λ _ x y. R x y) n xs ys
  all_changed n zero xs [] is c = subst (λ (l : List A). Each (λ _ x y. R x y) n l []) (sym c) tt
  all_changed n zero xs (y ∷ ys) is c = absurd (omega (arith, is))
  all_changed n (suc i) [] ys is c = absurd c
  all_changed n (suc i) (x ∷ xs) [] is c = absurd c
  all_changed n (suc i) (x ∷ xs) (y ∷ ys) is c = (c.0, all_changed (suc n) i xs ys (omega (arith, is)) c.1)

module _ {T K : Type 0} (stands : OutputConf → List Element → List Item → T → Type 0) (held : K → Option (List ℕ)) (total : K → Option ℕ) (faults : K → ℕ) where
  -- each of them had these items, and has one message more
  put_all : (n : ℕ) (items : List Item) (message : Msg) (firsts olds news : List (Output T K)) → Each (λ _ first now. HasFrom stands held total faults items first now) n firsts olds → Each (λ _ old new. PutsMessage held total faults stands message old new) n olds news
      → Each (λ _ first now. HasFrom stands held total faults (items ++ items_of (message ∷ [])) first now) n firsts news
  put_all n items message [] [] [] h p = tt
  put_all n items message [] [] (c ∷ news) h p = absurd p
  put_all n items message [] (b ∷ olds) news h p = absurd h
  put_all n items message (a ∷ firsts) [] news h p = absurd h
  put_all n items message (a ∷ firsts) (b ∷ olds) [] h p = absurd p
  put_all n items message (a ∷ firsts) (b ∷ olds) (c ∷ news) h p = ((λ output table s none. p.0 output table items a (h.0 output table s none)), put_all (suc n) items message firsts olds news h.1 p.1)

  -- what is left of a message was handed to all
  pub put_left : (message left : Msg) (old new : Outputs T K) (outputs : List (Output T K)) → new.stages ≡ old.stages → new.wanting ≡ None → old.wanting ≡ None → new.outputs.items ≡ outputs
      → IsBehind old.stages message left → AllPut stands held total faults left old.outputs.items outputs → PutsItems stands held total faults message old new
  put_left message left old new outputs kept none was all behind p first items went = record {
    same = kept ∙ went.same;
    went = λ confs is.
        let whole : items_through confs (items ++ items_of (message ∷ [])) ≡ items_through confs items ++ items_of (left ∷ []) =
        stages_append confs items (items_of (message ∷ [])) ∙ ap (λ l. items_through confs items ++ l) (sym (behind.items confs (is ∙ sym went.same))) in
        let before : AllHave stands held total faults (items_through confs items) first.outputs.items old.outputs.items =
        subst (λ (o : Option ℕ). MatchOption o (AllHave stands held total faults (items_through confs items) first.outputs.items old.outputs.items) (CutShort stands held total faults confs items first.outputs.items old.outputs.items)) was (went.went confs is) in
        subst (λ (o : Option ℕ). MatchOption o (AllHave stands held total faults (items_through confs (items ++ items_of (message ∷ []))) first.outputs.items new.outputs.items) (CutShort stands held total faults confs (items ++ items_of (message ∷ [])) first.outputs.items new.outputs.items)) (sym none)
        (subst (λ (l : List Item). AllHave stands held total faults l first.outputs.items new.outputs.items) (sym whole)
        (subst (λ (l : List (Output T K)). AllHave stands held total faults (items_through confs items ++ items_of (left ∷ [])) first.outputs.items l) (sym all)
        (put_all 0 (items_through confs items) left first.outputs.items old.outputs.items outputs before p)));
  }

  -- an intermediate wants memory, or wanted it before
  pub cut_now : (message : Msg) (old new : Outputs T K) (k : ℕ) → new.stages ≡ old.stages → new.outputs.items ≡ old.outputs.items → old.wanting ≡ None → new.wanting ≡ Some k → k < length old.stages → PutsItems stands held total faults message old new
  cut_now message old new k kept same was wants few first items went = record {
    same = kept ∙ went.same;
    went = λ confs is.
        let before : AllHave stands held total faults (items_through confs items) first.outputs.items old.outputs.items =
        subst (λ (o : Option ℕ). MatchOption o (AllHave stands held total faults (items_through confs items) first.outputs.items old.outputs.items) (CutShort stands held total faults confs items first.outputs.items old.outputs.items)) was (went.went confs is) in
        subst (λ (o : Option ℕ). MatchOption o (AllHave stands held total faults (items_through confs (items ++ items_of (message ∷ []))) first.outputs.items new.outputs.items) (CutShort stands held total faults confs (items ++ items_of (message ∷ [])) first.outputs.items new.outputs.items)) (sym wants)
        (record {
          is_stage = subst (λ n. k < n) (ap length (went.same ∙ sym is) ∙ length-map confs (λ (s : StageConf). s.work)) few;
          front = items;
          rest = items_of (message ∷ []);
          whole = refl;
          have = subst (λ (l : List (Output T K)). AllHave stands held total faults (items_through confs items) first.outputs.items l) (sym same) before;
        });
  }

  pub cut_before : (message : Msg) (old : Outputs T K) → is_some old.wanting ≡ true → PutsItems stands held total faults message old old
  cut_before message old some first items went = record {
    same = went.same;
    went = λ confs is. by_wanting confs old.wanting refl some (went.went confs is);
  }
    where
      further : (confs : List StageConf) (k : ℕ) → CutShort stands held total faults confs items first.outputs.items old.outputs.items k → CutShort stands held total faults confs (items ++ items_of (message ∷ [])) first.outputs.items old.outputs.items k
      further confs k c = record {
        is_stage = c.is_stage;
        front = c.front;
        rest = c.rest ++ items_of (message ∷ []);
        whole = ap (λ l. l ++ items_of (message ∷ [])) c.whole ∙ append_assoc c.front c.rest (items_of (message ∷ []));
        have = c.have;
      }

      by_wanting : (confs : List StageConf) (o : Option ℕ) → old.wanting ≡ o → is_some o ≡ true
          → MatchOption old.wanting (AllHave stands held total faults (items_through confs items) first.outputs.items old.outputs.items) (CutShort stands held total faults confs items first.outputs.items old.outputs.items)
          → MatchOption old.wanting (AllHave stands held total faults (items_through confs (items ++ items_of (message ∷ []))) first.outputs.items old.outputs.items) (CutShort stands held total faults confs (items ++ items_of (message ∷ [])) first.outputs.items old.outputs.items)
      by_wanting confs None is some m = absurd cc
      by_wanting confs (Some k) is some m =
          subst (λ (o : Option ℕ). MatchOption o (AllHave stands held total faults (items_through confs (items ++ items_of (message ∷ []))) first.outputs.items old.outputs.items) (CutShort stands held total faults confs (items ++ items_of (message ∷ [])) first.outputs.items old.outputs.items)) (sym is)
          (further confs k (subst (λ (o : Option ℕ). MatchOption o (AllHave stands held total faults (items_through confs items) first.outputs.items old.outputs.items) (CutShort stands held total faults confs items first.outputs.items old.outputs.items)) is m))
