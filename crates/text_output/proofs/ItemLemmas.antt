-- The text of a message, by its item.
use Rattle.std.proofs.Common.{◌≡◌, ◌≢◌, ℕ, Bool, true, false, cond, List, [], ◌∷◌, ◌++◌, Some, None, map, refl, ap, sym, ◌∙◌, append-nil}
use Rattle.std.specs.Prelude.{filter}
use Rattle.std.specs.List.{flat_map}
use Rattle.config_spec.specs.declared.conf.OutputConf.{OutputConf}
use Rattle.config_spec.specs.declared.conf.OutputKind.{OutputKind}
use Rattle.config_spec.specs.declared.conf.OutputKind.TheVariants as O
use Rattle.config_spec.specs.declared.domains.DomainSet.{DomainSet}
use Rattle.text_spec.specs.declared.element.Element.{Element}
use Rattle.text_spec.specs.View.{message_line}
use Rattle.run_spec.specs.Work.{Item}
use Rattle.run_spec.specs.Work.Item.{Note, Tick}
use Rattle.run_spec.specs.Result.{json_text}
use Rattle.run_spec.specs.View.{count_records, message_view, set_view, view_text}
use Rattle.result_spec.specs.Result.{text_by, Exceeds}
use Rattle.result_spec.specs.Through.{is_for}
use Rattle.pipeline_message.specs.declared.message.DataMessage.{DataMessage}
use Rattle.pipeline_message.specs.declared.message.DataSet.{DataSet}
use Rattle.pipeline_message.specs.declared.message.SessionNote.{SessionNote}
use Rattle.pipeline_message.specs.declared.message.Msg.{Msg}
use Rattle.pipeline_message.specs.declared.message.Msg.TheVariants.{SessionMsg, DataMsg, Periodic, Terminate}
use Rattle.pipeline_message.specs.Items.{data_of, items_of, set_of}
use Rattle.message_texts.specs.Puts.{items_at, text_at, PutTo}
use Rattle.text_forms.specs.declared.kind.TextKind.{TextKind}
use Rattle.text_forms.specs.declared.kind.TextKind.TheVariants.{Json, View}
use Rattle.text_forms.specs.Made.{Made}
use Rattle.text_forms.specs.Kind.{text_kind}
use Rattle.text_output.specs.declared.output.TextOutput.{TextOutput}
use Rattle.text_output.specs.Output.{note_text, tick_text, sets_of, sets_text, data_text, alone, Makes, Stays}
use Rattle.text_output.proofs.LawLemmas.{texts_append}

abbrev texts : TextKind → List Element → List Item → List ℕ
texts (Json options) table items = json_text options table items
texts View table items = view_text table items

by_kind : (table : List Element) (kind : OutputKind) (k : TextKind) → text_kind kind ≡ Some k → (items : List Item) → text_by table kind items ≡ texts k table items
by_kind table (O.Json options) k e items = let same : Json options ≡ k = cc in ap (λ (x : TextKind). texts x table items) same
by_kind table (O.Ipfix last) k e items = absurd cc
by_kind table O.View k e items = let same : View ≡ k = cc in ap (λ (x : TextKind). texts x table items) same

-- text needs no number
needs_none : (kind : OutputKind) (k : TextKind) → text_kind kind ≡ Some k → (items : List Item) → Exceeds kind items → ⊥
needs_none (O.Json options) k e items wrong = wrong
needs_none (O.Ipfix last) k e items wrong = absurd cc
needs_none O.View k e items wrong = wrong

-- what an output makes of items
text_is : (output : OutputConf) (table : List Element) (t : TextOutput) → Makes output table t → (items : List Item) → text_at table output items ≡ texts t.forms.kind t.forms.elements (filter (is_for t.domains) items)
text_is output table t m items =
    by_kind table output.kind t.forms.kind m.kind (items_at output items)
    ∙ (ap (λ (d : DomainSet). texts t.forms.kind table (filter (is_for d) items)) (sym m.domains) ∙ ap (λ (rows : List Element). texts t.forms.kind rows (filter (is_for t.domains) items)) (sym m.elements))

note_is : (kind : TextKind) (table : List Element) (note : SessionNote) → texts kind table (Note note.key note.transport note.opened ∷ []) ≡ note_text kind note
note_is (Json options) table note = refl
note_is View table note = append-nil (note_text View note)

tick_is : (kind : TextKind) (table : List Element) (input seconds : ℕ) → texts kind table (Tick input seconds ∷ []) ≡ tick_text kind input seconds
tick_is (Json options) table input seconds = refl
tick_is View table input seconds = append-nil (tick_text View input seconds)

none_is : (kind : TextKind) (table : List Element) → texts kind table [] ≡ []
none_is (Json options) table = refl
none_is View table = refl

one_is : (kind : TextKind) (made : Made) (m : DataMessage) → texts kind made.elements (data_of m ∷ []) ≡ sets_text kind made m
one_is (Json options) made m = append-nil (sets_text (Json options) made m)
one_is View made m = append-nil (sets_text View made m)

data_is : (made : Made) (domains : DomainSet) (m : DataMessage) → texts made.kind made.elements (filter (is_for domains) (data_of m ∷ [])) ≡ data_text made.kind made domains m
data_is made domains m = by_test (is_for domains (data_of m))
  where
    by_test : (b : Bool) → texts made.kind made.elements (cond b (data_of m ∷ []) []) ≡ cond b (sets_text made.kind made m) []
    by_test true = one_is made.kind made m
    by_test false = none_is made.kind made.elements

-- The text of a message is that of what it stands for.
alone_is : (output : OutputConf) (table : List Element) (t : TextOutput) → Makes output table t → (message : Msg) → text_at table output (items_of (message ∷ [])) ≡ alone t.forms t.domains message
alone_is output table t m (SessionMsg note) = text_is output table t m (items_of (SessionMsg note ∷ [])) ∙ note_is t.forms.kind t.forms.elements note
alone_is output table t m (DataMsg x) = text_is output table t m (items_of (DataMsg x ∷ [])) ∙ data_is t.forms t.domains x.value
alone_is output table t m (Periodic input seconds) = text_is output table t m (items_of (Periodic input seconds ∷ [])) ∙ tick_is t.forms.kind t.forms.elements input seconds
alone_is output table t m Terminate = text_is output table t m [] ∙ none_is t.forms.kind t.forms.elements

-- a listed message
pub listed : (made : Made) (m : DataMessage) (count : ℕ) (text sets : List ℕ) → m.sets.items ≢ [] → count ≡ count_records (sets_of m) → sets ≡ flat_map (set_view made.elements) (sets_of m)
    → text ≡ message_line m.session m.domain m.export m.seq count ++ sets → text ≡ sets_text View made m
listed made m count text sets some counted are is =
    is ∙ (ap (λ n. message_line m.session m.domain m.export m.seq n ++ sets) counted ∙ (ap (λ (l : List ℕ). message_line m.session m.domain m.export m.seq (count_records (sets_of m)) ++ l) are ∙ by_sets m.sets.items some))
  where
    by_sets : (list : List DataSet) → list ≢ [] → message_line m.session m.domain m.export m.seq (count_records (map (set_of m.octets.value) list)) ++ flat_map (set_view made.elements) (map (set_of m.octets.value) list)
        ≡ message_view made.elements m.session m.domain m.export m.seq (map (set_of m.octets.value) list)
    by_sets [] some = absurd (some refl)
    by_sets (s ∷ list) some = refl

-- A message puts its text behind that of all before it.
pub puts_own : (output : OutputConf) (table : List Element) (items : List Item) (old new : TextOutput) (message : Msg) → Makes output table old → Stays old new → new.text ≡ alone old.forms old.domains message
    → PutTo (λ o rows is t. Makes o rows t) (λ t. t.text) message output table items new
puts_own output table items old new message m stays text =
    let kind : text_kind output.kind ≡ Some new.forms.kind = m.kind ∙ ap (λ (f : Made). Some f.kind) (sym stays.forms) in
    let is_text : text_kind output.kind ≡ None → ⊥ = λ none. (let e = sym kind ∙ none in cc) in record {
      stands_for = record { kind = kind; domains = stays.domains ∙ m.domains; elements = ap (λ (f : Made). f.elements) stays.forms ∙ m.elements };
      grows = texts_append table output is_text items (items_of (message ∷ [])) ∙ ap (λ (t : List ℕ). text_at table output items ++ t) (alone_is output table old m message ∙ sym text);
      enough = needs_none output.kind new.forms.kind kind (items_at output (items ++ items_of (message ∷ [])));
    }
