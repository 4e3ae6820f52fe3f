-- What an output takes, of the items behind the intermediates.
use Rattle.std.specs.Prelude.{ℕ, ◌≡◌, ◌≤◌, ◌+◌, ◌-◌, ◌^◌, List, [], ◌∷◌, ◌++◌, Bool, Option, Some, None, MatchOption, length, take}
use Rattle.config_spec.specs.declared.conf.OutputConf.{OutputConf}
use Rattle.text_spec.specs.declared.element.Element.{Element}
use Rattle.run_spec.specs.Work.{Item}
use Rattle.result_spec.specs.Result.{items_held, text_by}
use Rattle.site_io.specs.Writes.{Grows, standing}
use Rattle.site_io.specs.declared.outside.OutsideFault.{OutsideFault}
use Rattle.site_io.specs.declared.outside.OutsideFault.TheVariants as outside
use Rattle.call_spec.specs.declared.end.OutputFault.{OutputFault}
use Rattle.call_spec.specs.declared.end.OutputFault.TheVariants as fault
use Rattle.call_spec.specs.Counts.{MovesBy}
use Rattle.call_spec.specs.Ends.{output_failed}
use Rattle.pipeline_message.specs.declared.message.Msg.{Msg}
use Rattle.pipeline_message.specs.Items.{items_of}
use Rattle.message_texts.specs.declared.texts.TextFault.{TextFault}
use Rattle.message_texts.specs.declared.texts.TextFault.TheVariants as text
use Rattle.message_texts.specs.Puts.{ExceedsAt, items_at, text_at}
use Rattle.logged_outputs.specs.declared.output.Output.{Output}

-- why an output ends whose text could not be made, or not be written
abbrev pub fault_by : TextFault → OutputFault
fault_by text.Limit = fault.Limit
fault_by text.NoMemory = fault.NoMemory

abbrev pub fault_from : OutsideFault → OutputFault
fault_from outside.Failed = fault.Failed
fault_from outside.NoMemory = fault.NoMemory

-- its text of the items that it can hold
abbrev pub text_within : List Element → OutputConf → List Item → List ℕ
text_within table output items = text_by table output.kind (items_held output.kind (items_at output items))

-- a number of octets that was told grew by that of these, and stands at its end
abbrev pub GrewBy : List ℕ → Option ℕ → Option ℕ → Type 0
GrewBy octets old new = (n : ℕ) → n ≤ 2 ^ 64 - 1 → old ≡ Some n → new ≡ Some (standing (n + length octets))

module _ {K : Type 0} (held : K → Option (List ℕ)) (total : K → Option ℕ) (faults : K → ℕ) where
  -- a sink took these octets: it holds so many more, and its number of them, where it tells one, grew by theirs
  abbrev pub TookAll : List ℕ → K → K → Type 0
  TookAll octets sink now_sink = Grows (held sink) (held now_sink) octets × GrewBy octets (total sink) (total now_sink)

  -- or a front of them, which are cut off there
  abbrev pub TookFront : List ℕ → K → K → Type 0
  TookFront octets sink now_sink = (n : ℕ) × (n ≤ length octets) × TookAll (take n octets) sink now_sink

  -- a text was written whole, or a front of it
  abbrev pub Wrote : List ℕ → K → K → Option OutputFault → Type 0
  Wrote octets sink now_sink None = TookAll octets sink now_sink × (faults now_sink ≡ faults sink)
  Wrote octets sink now_sink (Some fault.Failed) = TookFront octets sink now_sink × MovesBy (output_failed (Some fault.Failed)) (faults sink) (faults now_sink)
  Wrote octets sink now_sink (Some fault.Limit) = ⊥
  Wrote octets sink now_sink (Some fault.NoMemory) = TookFront octets sink now_sink × MovesBy (output_failed (Some fault.NoMemory)) (faults sink) (faults now_sink)

  -- what a sink holds of an output that ended so: at its limit the text of the items that it can hold, and else a front
  abbrev pub HoldsEnded : OutputFault → List Element → OutputConf → List Item → K → K → Type 0
  HoldsEnded fault.Failed table output items sink now_sink = TookFront (text_at table output items) sink now_sink
  HoldsEnded fault.Limit table output items sink now_sink = ExceedsAt output items × TookAll (text_within table output items) sink now_sink
  HoldsEnded fault.NoMemory table output items sink now_sink = TookFront (text_at table output items) sink now_sink

  module _ {T : Type 0} (stands : OutputConf → List Element → List Item → T → Type 0) where
    -- an output that goes on holds its text of some items, and can make that of more
    pub record HoldsAll (output : OutputConf) (table : List Element) (items : List Item) (first now : Output T K) : Type 0 where
      pub makes : stands output table items now.texts
      pub holds : TookAll (text_at table output items) first.sink now.sink
      pub counts : faults now.sink ≡ faults first.sink
      pub enough : ExceedsAt output items → ⊥

    -- one that has ended holds a part of it
    pub record HoldsPart (output : OutputConf) (table : List Element) (items : List Item) (first now : Output T K) (f : OutputFault) : Type 0 where
      pub holds : HoldsEnded f table output items first.sink now.sink
      pub counts : MovesBy (output_failed (Some f)) (faults first.sink) (faults now.sink)

    -- what an output holds since it was so
    abbrev pub OutputHas : OutputConf → List Element → List Item → Output T K → Output T K → Type 0
    OutputHas output table items first now = MatchOption now.fault (HoldsAll output table items first now) (HoldsPart output table items first now)

    -- whatever items came before, those of one message more have come
    abbrev pub PutsMessage : Msg → Output T K → Output T K → Type 0
    PutsMessage message old new = (output : OutputConf) (table : List Element) (items : List Item) (first : Output T K)
        → OutputHas output table items first old → OutputHas output table (items ++ items_of (message ∷ [])) first new
