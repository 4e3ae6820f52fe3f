-- What the manager of a domain has after a template record, by some records that it stands for.
use Rattle.std.proofs.Common.{◌≡◌, ℕ, List, [], ◌∷◌, ◌++◌, Some, None, ap, sym, subst, ◌∙◌}
use Rattle.std.specs.Prelude.{Option, Result, Ok, Err, OnOk, OnErr, fold}
use Rattle.std.proofs.Math.Logic.{∥∥₁_elim}
use Rattle.std.proofs.Props.{props}
use Rattle.std.proofs.lemmas.List.Sums.{fold-append}
use Rattle.col_base.specs.declared.base.Transport.{Transport}
use Rattle.col_base.specs.declared.base.Transport.TheVariants.{File}
use Rattle.wire_spec.specs.Content.{Definition, Touch}
use Rattle.wire_spec.specs.WellFormed.{IsWellFormed}
use Rattle.ipfix_reader.specs.Specifiers.{scope_prop}
use Rattle.template_spec.specs.Defined.{DefineWell, DefinesWell}
use Rattle.template_spec.specs.Valid.{touched, last_touched, valid}
use Rattle.template_spec.proofs.DefinedLemmas.{valid_well}
use Rattle.template_manager.specs.State.{State}
use Rattle.template_manager.specs.Stands.{StandsBy, StandsFor}
use Rattle.template_manager.specs.Table.{definition_in}
use Rattle.file_templates.specs.TemplateRecords.{StandsForSome}

-- One touch later.
pub one_touch_later : (start old new : ℕ → Option Definition) (touches : List Touch) (touch : Touch) → ((id : ℕ) → old id ≡ fold (touched id) (start id) touches)
    → ((id : ℕ) → new id ≡ touched id (old id) touch) → (id : ℕ) → new id ≡ fold (touched id) (start id) (touches ++ touch ∷ [])
one_touch_later start old new touches touch p q = λ id. q id ∙ (ap (λ (f : Option Definition). touched id f touch) (p id) ∙ sym (fold-append (touched id) (start id) touches (touch ∷ [])))

-- In a file a manager has what the last of the records say that it stands for.
pub file_has : (m : State) (past : List (ℕ × Touch)) → m.transport ≡ File → StandsFor m past → (id : ℕ) → definition_in m.ordered id ≡ last_touched past id
file_has m past file s id = let t : StandsBy File m past = subst (λ (t : Transport). StandsBy t m past) file s in t id

-- A manager that stands for what it stood for has what it had.
pub file_kept : (old new : State) → old.transport ≡ File → new.transport ≡ File → ((past : List (ℕ × Touch)) → StandsFor old past → StandsFor new past) → ∥ StandsForSome old ∥₁ → (id : ℕ) → definition_in new.ordered id ≡ definition_in old.ordered id
file_kept old new was is keeps w = λ id. ∥∥₁_elim w (hlevel props) (λ s. file_has new s.0 is (keeps s.0 s.1) id ∙ sym (file_has old s.0 was s.1 id))

pub some_kept : (old new : State) → ((past : List (ℕ × Touch)) → StandsFor old past → StandsFor new past) → ∥ StandsForSome old ∥₁ → ∥ StandsForSome new ∥₁
some_kept old new keeps w = ∥∥₁_elim w (hlevel) (λ s. ∣ (s.0, keeps s.0 s.1, s.2) ∣₁)

-- One that stands for a record more has what the record makes of it.
pub file_more : (old new : State) (export : ℕ) (touch : Touch) → old.transport ≡ File → new.transport ≡ File → ((past : List (ℕ × Touch)) → StandsFor old past → StandsFor new (past ++ (export, touch) ∷ [])) → ∥ StandsForSome old ∥₁
    → (id : ℕ) → definition_in new.ordered id ≡ touched id (definition_in old.ordered id) touch
file_more old new export touch was is more w = λ id.
    ∥∥₁_elim w (hlevel props) (λ s.
    file_has new (s.0 ++ (export, touch) ∷ []) is (more s.0 s.1) id
    ∙ (fold-append (λ (f : Option Definition) (t : ℕ × Touch). touched id f t.1) None s.0 ((export, touch) ∷ [])
    ∙ ap (λ (f : Option Definition). touched id f touch) (sym (file_has old s.0 was s.1 id))))

well_more : (past : List (ℕ × Touch)) (export : ℕ) (touch : Touch) → DefineWell past → DefinesWell touch → DefineWell (past ++ (export, touch) ∷ [])
well_more [] export touch p q = (q, tt)
well_more (t ∷ past) export touch p q = (p.0, well_more past export touch p.1 q)

some_more : (old new : State) (export : ℕ) (touch : Touch) → DefinesWell touch → ((past : List (ℕ × Touch)) → StandsFor old past → StandsFor new (past ++ (export, touch) ∷ [])) → ∥ StandsForSome old ∥₁ → ∥ StandsForSome new ∥₁
some_more old new export touch well more w = ∥∥₁_elim w (hlevel) (λ s. ∣ (s.0 ++ (export, touch) ∷ [], more s.0 s.1, well_more s.0 export touch s.2 well) ∣₁)

-- What is valid by the records that it stands for is what it has.
pub file_found : (m : State) (export id : ℕ) (found : Option Definition) → m.transport ≡ File → ∥ StandsForSome m ∥₁ → ((past : List (ℕ × Touch)) → StandsFor m past → found ≡ valid m.transport m.life past export id) → definition_in m.ordered id ≡ found
file_found m export id found file w is = ∥∥₁_elim w (hlevel props) (λ s. file_has m s.0 file s.1 id ∙ sym (is s.0 s.1 ∙ ap (λ t. valid t m.life s.0 export id) file))

-- And it is well formed.
pub file_well : (m : State) (export id : ℕ) (definition : Definition) → ∥ StandsForSome m ∥₁ → ((past : List (ℕ × Touch)) → StandsFor m past → Some definition ≡ valid m.transport m.life past export id) → IsWellFormed definition
file_well m export id definition w is = ∥∥₁_elim w (hlevel (props, scope_prop)) (λ s. valid_well m.transport m.life s.0 export id definition s.2 (sym (is s.0 s.1)))

-- The same where the record may be refused memory.
pub some_taken : {X E : Type 0} (r : Result X E) (old new : State) (export : ℕ) (touch : Touch) → DefinesWell touch → OnOk r ((past : List (ℕ × Touch)) → StandsFor old past → StandsFor new (past ++ (export, touch) ∷ [])) → OnErr r (new ≡ old) → ∥ StandsForSome old ∥₁ → ∥ StandsForSome new ∥₁
some_taken (Ok x) old new export touch well more same w = some_more old new export touch well more w
some_taken (Err e) old new export touch well more same w = subst (λ (m : State). ∥ StandsForSome m ∥₁) (sym same) w
