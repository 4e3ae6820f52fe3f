-- What an output of text makes of a message.
use Rattle.std.specs.Prelude.{ℕ, ◌≡◌, if◌then◌else◌, List, [], Option, Some, None, map}
use Rattle.std.specs.List.{flat_map}
use Rattle.config_spec.specs.declared.conf.OutputConf.{OutputConf}
use Rattle.config_spec.specs.declared.domains.DomainSet.{DomainSet}
use Rattle.text_spec.specs.declared.element.Element.{Element}
use Rattle.text_spec.specs.View.{opened_line, closed_line, tick_line}
use Rattle.run_spec.specs.Outcome.{DecodedSet}
use Rattle.run_spec.specs.Result.{set_text}
use Rattle.run_spec.specs.View.{count_records, message_view, set_view}
use Rattle.result_spec.specs.Through.{is_for}
use Rattle.pipeline_message.specs.declared.message.DataMessage.{DataMessage}
use Rattle.pipeline_message.specs.declared.message.SessionNote.{SessionNote}
use Rattle.pipeline_message.specs.declared.message.Msg.{Msg}
use Rattle.pipeline_message.specs.declared.message.Msg.TheVariants.{SessionMsg, DataMsg, Periodic, Terminate}
use Rattle.pipeline_message.specs.Items.{data_of, set_of}
use Rattle.text_forms.specs.declared.kind.TextKind.{TextKind}
use Rattle.text_forms.specs.declared.kind.TextKind.TheVariants.{Json, View}
use Rattle.text_forms.specs.Made.{Made}
use Rattle.text_forms.specs.Kind.{text_kind}
use Rattle.text_output.specs.declared.output.TextOutput.{TextOutput}

-- a listing alone has lines of sessions and of seconds
abbrev pub note_text : TextKind → SessionNote → List ℕ
note_text (Json options) note = []
note_text View note = if note.opened then opened_line note.key note.transport else closed_line note.key

abbrev pub tick_text : TextKind → ℕ → ℕ → List ℕ
tick_text (Json options) input seconds = []
tick_text View input seconds = tick_line input seconds

-- the sets of a message
abbrev pub sets_of : DataMessage → List DecodedSet
sets_of m = map (set_of m.octets.value) m.sets.items

abbrev pub sets_text : TextKind → Made → DataMessage → List ℕ
sets_text (Json options) made m = flat_map (set_text options made.elements) (sets_of m)
sets_text View made m = message_view made.elements m.session m.domain m.export m.seq (sets_of m)

-- the sets of a message are listed, and their records are counted
pub record ListsSets (made : Made) (m : DataMessage) (sets : List ℕ) (count : ℕ) : Type 0 where
  pub text : made.kind ≡ View → sets ≡ flat_map (set_view made.elements) (sets_of m)
  pub counted : count ≡ count_records (sets_of m)

-- a message that doesn't come to the output has no text
abbrev pub data_text : TextKind → Made → DomainSet → DataMessage → List ℕ
data_text kind made domains m = if is_for domains (data_of m) then sets_text kind made m else []

-- the text of a message
abbrev pub alone : Made → DomainSet → Msg → List ℕ
alone made domains (SessionMsg note) = note_text made.kind note
alone made domains (DataMsg m) = data_text made.kind made domains m.value
alone made domains (Periodic input seconds) = tick_text made.kind input seconds
alone made domains Terminate = []

-- It makes the text of this output, by these elements, whatever came before.
pub record Makes (output : OutputConf) (table : List Element) (t : TextOutput) : Type 0 where
  pub kind : text_kind output.kind ≡ Some t.forms.kind
  pub domains : t.domains ≡ output.domains
  pub elements : t.forms.elements ≡ table

-- what it is made for stays
pub record Stays (old new : TextOutput) : Type 0 where
  pub forms : new.forms ≡ old.forms
  pub domains : new.domains ≡ old.domains

-- one was made, or the output writes no text
abbrev pub IsMadeFor : OutputConf → List Element → Option TextOutput → Type 0
IsMadeFor output table None = text_kind output.kind ≡ None
IsMadeFor output table (Some t) = Makes output table t
