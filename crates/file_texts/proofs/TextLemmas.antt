-- What a message adds to the text of an output of IPFIX Files.
use Rattle.std.proofs.Common.{◌≡◌, ℕ, ◌<◌, ◌≤◌, Bool, true, false, cond, max, List, [], ◌∷◌, ◌++◌, Some, None, filter, refl, ap, sym, subst, ◌∙◌, append-nil, arith}
use Rattle.std.specs.Prelude.{◌%◌, ◌^◌, find, flat_map, fold, nat_lt, sum_by}
use Rattle.std.proofs.lemmas.Bool.{ltb-true, ltb-false}
use Rattle.std.proofs.lemmas.List.Elements.{filter-append}
use Rattle.std.proofs.lemmas.List.Sums.{sum_by-append}
use Rattle.std.proofs.lemmas.Grind.{flat_map-append}
use Rattle.config_spec.specs.declared.conf.OutputConf.{OutputConf}
use Rattle.config_spec.specs.declared.conf.OutputKind.{OutputKind}
use Rattle.config_spec.specs.declared.conf.OutputKind.TheVariants.{Ipfix}
use Rattle.config_spec.specs.declared.domains.DomainSet.{DomainSet}
use Rattle.run_spec.specs.Work.{Item}
use Rattle.run_spec.specs.Work.Item.{Note, Tick}
use Rattle.file_spec.specs.File.{definitions_of, definitions_used, file_needs, file_octets, needed_by, octets_after, records_written, sequence_of, with_definition}
use Rattle.file_spec.proofs.MoreLemmas.{one_more_octets}
use Rattle.file_spec.proofs.NeedLemmas.{needs_more}
use Rattle.text_spec.specs.declared.element.Element.{Element}
use Rattle.result_spec.specs.Result.{Exceeds, text_by}
use Rattle.result_spec.specs.Through.{is_for}
use Rattle.pipeline_message.specs.declared.message.DataMessage.{DataMessage}
use Rattle.pipeline_message.specs.declared.message.SessionNote.{SessionNote}
use Rattle.pipeline_message.specs.declared.message.Msg.{Msg}
use Rattle.pipeline_message.specs.declared.message.Msg.TheVariants.{SessionMsg, DataMsg, Periodic, Terminate}
use Rattle.pipeline_message.specs.Items.{data_of, items_of}
use Rattle.output_manager.specs.Goes.{goes_to}
use Rattle.message_texts.specs.declared.texts.TextFault.{TextFault}
use Rattle.message_texts.specs.declared.texts.TextFault.TheVariants as fault
use Rattle.message_texts.specs.Puts.{items_at, MeetsLimit, PutTo}
use Rattle.file_output.specs.declared.kept.Numbering.{Numbering}
use Rattle.file_output.specs.Stands.{IsPut, StandsFor}
use Rattle.file_texts.specs.declared.maker.FileTexts.{FileTexts}
use Rattle.file_texts.specs.Texts.{Grows, IsGrown, NeedsMore, Stands, Stays}

at_more : (output : OutputConf) (items more : List Item) → items_at output (items ++ more) ≡ items_at output items ++ items_at output more
at_more output items more = filter-append (is_for output.domains) items more

-- ---- the greatest number that is needed

above_stays : (last m : ℕ) (numbers : List ℕ) → last < m → last < fold max m numbers
above_stays last m [] over = over
above_stays last m (n ∷ numbers) over = above_stays last (max m n) numbers (omega arith)

above : (last m n : ℕ) (numbers : List ℕ) → find (nat_lt last) numbers ≡ Some n → last < fold max m numbers
above last m n [] e = absurd cc
above last m n (x ∷ numbers) e = by (nat_lt last x) refl (above last (max m x) n numbers) e
  where
    by : (b : Bool) → nat_lt last x ≡ b → (find (nat_lt last) numbers ≡ Some n → last < fold max (max m x) numbers) → cond b (Some x) (find (nat_lt last) numbers) ≡ Some n → last < fold max (max m x) numbers
    by true is further e = let over = ltb-true last x is in above_stays last (max m x) numbers (omega arith)
    by false is further e = further e

within : (last m : ℕ) (numbers : List ℕ) → m ≤ last → find (nat_lt last) numbers ≡ None → fold max m numbers ≤ last
within last m [] enough e = enough
within last m (x ∷ numbers) enough e = by (nat_lt last x) refl (within last (max m x) numbers) e
  where
    by : (b : Bool) → nat_lt last x ≡ b → (max m x ≤ last → find (nat_lt last) numbers ≡ None → fold max (max m x) numbers ≤ last) → cond b (Some x) (find (nat_lt last) numbers) ≡ None → fold max (max m x) numbers ≤ last
    by true is further e = absurd cc
    by false is further e = let most = ltb-false last x is in further (omega arith) e

one_needs : (items : List Item) (i : Item) → file_needs (items ++ i ∷ []) ≡ fold max (file_needs items) (needed_by (items ++ i ∷ []) i)
one_needs items i = needs_more items (i ∷ []) ∙ ap (fold max (file_needs items)) (append-nil (needed_by (items ++ i ∷ []) i))

-- ---- what came is what was there, and something more

-- the maker behind more items, by those that come to the output
came : (output : OutputConf) (items more now : List Item) (old new : FileTexts) → Stands output items old → new.numbering.last ≡ old.numbering.last → new.domains ≡ old.domains → items_at output more ≡ now
    → StandsFor (items_at output items ++ now) new.numbering → file_needs (items_at output items ++ now) ≤ old.numbering.last → file_octets (items_at output items ++ now) ≡ file_octets (items_at output items) ++ new.text
    → IsGrown output items more new
came output items more now old new s last domains e kept enough grows =
    let whole : items_at output items ++ now ≡ items_at output (items ++ more) = ap (λ l. items_at output items ++ l) (sym e) ∙ sym (at_more output items more) in
    record {
      stands = record {
        kind = subst (λ n. output.kind ≡ Ipfix n) (sym last) s.kind;
        domains = domains ∙ s.domains;
        kept = subst (λ (l : List Item). StandsFor l new.numbering) whole kept;
        enough = subst (λ (l : List Item). file_needs l ≤ new.numbering.last) whole (subst (λ n. file_needs (items_at output items ++ now) ≤ n) (sym last) enough);
      };
      grows = subst (λ (l : List Item). file_octets l ≡ file_octets (items_at output items) ++ new.text) whole grows;
    }

-- the text is let go
pub stays : (old new : FileTexts) → new.numbering ≡ old.numbering → new.domains ≡ old.domains → Stays old new
stays old new numbering domains output items s =
    record {
      kind = subst (λ (n : Numbering). output.kind ≡ Ipfix n.last) (sym numbering) s.kind;
      domains = domains ∙ s.domains;
      kept = subst (StandsFor (items_at output items)) (sym numbering) s.kept;
      enough = subst (λ (n : Numbering). file_needs (items_at output items) ≤ n.last) (sym numbering) s.enough;
    }

-- and what is needed more, is needed more than before
pub more_where : (more : List Item) (old new : FileTexts) (fault : TextFault) → new.numbering ≡ old.numbering → new.domains ≡ old.domains → NeedsMore more new fault → NeedsMore more old fault
more_where more old new fault.Limit numbering domains needs = λ output items s. subst (λ (n : Numbering). n.last < file_needs (items_at output (items ++ more))) numbering (needs output items (stays old new numbering domains output items s))
more_where more old new fault.NoMemory numbering domains needs = tt

-- nothing that is written comes
pub nothing_comes : (more : List Item) (old new : FileTexts) → new.numbering ≡ old.numbering → new.domains ≡ old.domains → new.text ≡ [] → ((output : OutputConf) → output.domains ≡ old.domains → items_at output more ≡ []) → Grows more old new
nothing_comes more old new numbering domains text none output items s =
    let all = items_at output items in
    came output items more [] old new s (ap (λ (n : Numbering). n.last) numbering) domains (none output (sym s.domains))
    (subst (λ (l : List Item). StandsFor l new.numbering) (sym (append-nil all)) (subst (StandsFor all) (sym numbering) s.kept))
    (subst (λ (l : List Item). file_needs l ≤ old.numbering.last) (sym (append-nil all)) s.enough)
    (ap file_octets (append-nil all) ∙ (sym (append-nil (file_octets all)) ∙ ap (λ t. file_octets all ++ t) (sym text)))

-- a note or a tick comes, of which nothing is written
record IsSilent (i : Item) : Type 0 where
  comes : (domains : DomainSet) → is_for domains i ≡ true
  definitions : (domain : ℕ) → definitions_used domain i ≡ []
  records : (domain : ℕ) → records_written domain i ≡ 0
  needs : (items : List Item) → needed_by items i ≡ []
  octets : (items : List Item) → octets_after items i ≡ []

silent_stands : (i : Item) → IsSilent i → (items : List Item) (numbering : Numbering) → StandsFor items numbering → StandsFor (items ++ i ∷ []) numbering
silent_stands i silent items numbering stands domain =
    let known : definitions_of domain (items ++ i ∷ []) ≡ definitions_of domain items =
    ap (fold with_definition []) (flat_map-append (definitions_used domain) items (i ∷ []) ∙ (ap (λ l. flat_map (definitions_used domain) items ++ (l ++ [])) (silent.definitions domain) ∙ append-nil (flat_map (definitions_used domain) items))) in
    let sum = sum_by-append (records_written domain) items (i ∷ []) in
    let none = silent.records domain in
    let sequence : sequence_of domain (items ++ i ∷ []) ≡ sequence_of domain items = ap (λ n. n % 2 ^ 32) (let e : sum_by (records_written domain) (items ++ i ∷ []) ≡ sum_by (records_written domain) items = omega arith in e) in
    stands domain ∙ (λ j. record { known = sym known j; sequence = sym sequence j })

silent_comes : (i : Item) → IsSilent i → (old new : FileTexts) → new.numbering ≡ old.numbering → new.domains ≡ old.domains → new.text ≡ [] → Grows (i ∷ []) old new
silent_comes i silent old new numbering domains text output items s =
    let all = items_at output items in
    came output items (i ∷ []) (i ∷ []) old new s (ap (λ (n : Numbering). n.last) numbering) domains (ap (λ b. cond b (i ∷ []) []) (silent.comes output.domains))
    (silent_stands i silent all new.numbering (subst (StandsFor all) (sym numbering) s.kept))
    (subst (λ n. n ≤ old.numbering.last) (sym (one_needs all i ∙ ap (fold max (file_needs all)) (silent.needs (all ++ i ∷ [])))) s.enough)
    (one_more_octets all i ∙ ap (λ t. file_octets all ++ t) (silent.octets all ∙ sym text))

note_is_silent : (note : SessionNote) → IsSilent (Note note.key note.transport note.opened)
note_is_silent note = record { comes = λ _. refl; definitions = λ _. refl; records = λ _. refl; needs = λ _. refl; octets = λ _. refl }

tick_is_silent : (input seconds : ℕ) → IsSilent (Tick input seconds)
tick_is_silent input seconds = record { comes = λ _. refl; definitions = λ _. refl; records = λ _. refl; needs = λ _. refl; octets = λ _. refl }

pub note_comes : (note : SessionNote) (old new : FileTexts) → new.numbering ≡ old.numbering → new.domains ≡ old.domains → new.text ≡ [] → Grows (Note note.key note.transport note.opened ∷ []) old new
note_comes note = silent_comes (Note note.key note.transport note.opened) (note_is_silent note)

pub tick_comes : (input seconds : ℕ) (old new : FileTexts) → new.numbering ≡ old.numbering → new.domains ≡ old.domains → new.text ≡ [] → Grows (Tick input seconds ∷ []) old new
tick_comes input seconds = silent_comes (Tick input seconds) (tick_is_silent input seconds)

-- ---- a message with records

-- a message comes where it goes to the output
pub data_by : (domains : DomainSet) (m : DataMessage) (b : Bool) → is_for domains (data_of m) ≡ b → filter (is_for domains) (data_of m ∷ []) ≡ cond b (data_of m ∷ []) []
data_by domains m b e = ap (λ x. cond x (data_of m ∷ []) []) e

-- and one that doesn't go to it has no item of the output
pub none_elsewhere : (output : OutputConf) (message : Msg) → goes_to output.domains message ≡ false → items_at output (items_of (message ∷ [])) ≡ []
none_elsewhere output (SessionMsg note) e = absurd cc
none_elsewhere output (DataMsg m) e = data_by output.domains m.value false e
none_elsewhere output (Periodic input seconds) e = absurd cc
none_elsewhere output Terminate e = refl

module _ (m : DataMessage) (old : FileTexts) (e : is_for old.domains (data_of m) ≡ true) where
  comes_to : (output : OutputConf) (items : List Item) → Stands output items old → items_at output (data_of m ∷ []) ≡ data_of m ∷ []
  comes_to output items s = subst (λ (d : DomainSet). filter (is_for d) (data_of m ∷ []) ≡ data_of m ∷ []) s.domains (data_by old.domains m true e)

  pub data_comes : (new : FileTexts) → old.text ≡ [] → new.domains ≡ old.domains → new.numbering.last ≡ old.numbering.last
      → ((items : List Item) → StandsFor items old.numbering → IsPut old.numbering.last items (data_of m) new.numbering old.text new.text) → Grows (data_of m ∷ []) old new
  data_comes new empty domains last put output items s =
      let all = items_at output items in
      let p = put all s.kept in
      came output items (data_of m ∷ []) (data_of m ∷ []) old new s last domains (comes_to output items s) p.stands
      (subst (λ n. n ≤ old.numbering.last) (sym (one_needs all (data_of m))) (within old.numbering.last (file_needs all) (needed_by (all ++ data_of m ∷ []) (data_of m)) s.enough p.enough))
      (one_more_octets all (data_of m) ∙ ap (λ t. file_octets all ++ t) (ap (λ t. t ++ octets_after all (data_of m)) (sym empty) ∙ sym p.appended))

  pub data_needs_more : (n : ℕ) → ((items : List Item) → StandsFor items old.numbering → find (nat_lt old.numbering.last) (needed_by (items ++ data_of m ∷ []) (data_of m)) ≡ Some n)
      → (output : OutputConf) (items : List Item) → Stands output items old → old.numbering.last < file_needs (items_at output (items ++ data_of m ∷ []))
  data_needs_more n over output items s =
      let all = items_at output items in
      let whole : all ++ data_of m ∷ [] ≡ items_at output (items ++ data_of m ∷ []) = ap (λ l. all ++ l) (sym (comes_to output items s)) ∙ sym (at_more output items (data_of m ∷ [])) in
      subst (λ (l : List Item). old.numbering.last < file_needs l) whole
      (subst (λ k. old.numbering.last < k) (sym (one_needs all (data_of m))) (above old.numbering.last (file_needs all) n (needed_by (all ++ data_of m ∷ []) (data_of m)) (over all s.kept)))

-- ---- as the trait has it

pub is_put_to : (message : Msg) (output : OutputConf) (table : List Element) (items : List Item) (new : FileTexts) → IsGrown output items (items_of (message ∷ [])) new
    → PutTo (λ o _ list t. Stands o list t) (λ t. t.text) message output table items new
is_put_to message output table items new g =
    let more = items_of (message ∷ []) in
    record {
      stands_for = g.stands;
      grows = ap (λ k. text_by table k (items_at output (items ++ more))) g.stands.kind ∙ (g.grows ∙ ap (λ k. text_by table k (items_at output items) ++ new.text) (sym g.stands.kind));
      enough = λ exceeds. (
          let over : new.numbering.last < file_needs (items_at output (items ++ more)) = subst (λ (k : OutputKind). Exceeds k (items_at output (items ++ more))) g.stands.kind exceeds in
          let most = g.stands.enough in
          omega (arith, over, most)
          );
    }

pub meets_limit : (message : Msg) (old : FileTexts) (fault : TextFault) → NeedsMore (items_of (message ∷ [])) old fault → MeetsLimit (λ o _ list t. Stands o list t) fault message old
meets_limit message old fault.Limit more = λ output table items s. subst (λ (k : OutputKind). Exceeds k (items_at output (items ++ items_of (message ∷ [])))) (sym s.kind) (more output items s)
meets_limit message old fault.NoMemory more = tt
