-- What comes of the messages of a session: their items, and the lines of these.
use Rattle.std.specs.Prelude.{ℕ, ◌≡◌, true, List, [], ◌∷◌, ◌++◌, map, flat_map, Result}
use Rattle.col_base.specs.declared.base.SessionKey.{SessionKey}
use Rattle.col_base.specs.declared.base.Transport.TheVariants.{File}
use Rattle.arrival_spec.specs.Settings.{Settings}
use Rattle.arrival_spec.specs.Arrival.{Arrival}
use Rattle.arrival_spec.specs.Arrival.Arrival.{SessionOpen, Raw}
use Rattle.arrival_spec.specs.Sessions.{key_of}
use Rattle.wire_spec.specs.declared.malformed.Malformed.{Malformed}
use Rattle.wire_spec.specs.Content.{Part, Message, Says, Reads}
use Rattle.wire_spec.specs.Content.Part.{Body}
use Rattle.ipfix_reader.specs.declared.raw.RawSet.{RawSet}
use Rattle.ipfix_reader.specs.Walk.{RawSays, HaveSaid, message_of}
use Rattle.text_spec.specs.Builtin.{builtin_rows}
use Rattle.run_spec.specs.Touches.{dated, touches_before}
use Rattle.run_spec.specs.Outcome.{DecodedSet, Outcome, outcome, outcomes_after, decoded_in, decoded_sets}
use Rattle.run_spec.specs.Read.{ReadArrival, AreReadAs}
use Rattle.run_spec.specs.Judge.{Inputs, messages_of}
use Rattle.run_spec.specs.Work.{Item, work_of, item_of, items_of}
use Rattle.run_spec.specs.Work.Item.{Note, Tick, Data}
use Rattle.run_spec.specs.Result.{json_text, item_text}
use Rattle.file_templates.specs.declared.domains.Domains.{Domains}
use Rattle.file_templates.specs.SessionTemplates.{of_file, is_kept, StandFor, StandAmid}
use Rattle.call_spec.specs.Files.{file_settings}
use Rattle.file_lines.specs.declared.texts.Texts.{Texts}
use Rattle.file_lines.specs.Texts.{AddsText, AddsSets}

-- after the sets so far of a message this one gives this
abbrev pub GivesOutcome : Domains → ℕ → Part → Outcome → Type 0
GivesOutcome domains domain part o = (settings : Settings) (past : List Message) (time : ℕ) (parts : List Part) → StandAmid domains past time domain parts
    → outcome (of_file settings) time (touches_before (of_file settings) past domain ++ flat_map (dated File time) parts) part ≡ o

-- the lines of a data set of this ID and body were put
abbrev pub PutsData : Domains → ℕ → ℕ → List ℕ → Texts → Texts → Type 0
PutsData domains domain id body old new = (o : Outcome) × GivesOutcome domains domain (Body id body) o × AddsSets old new (decoded_in o)

-- a set was taken, and the lines of its data records were put
pub record TakesSet (raw : RawSet) (domain : ℕ) (old new : Domains) (before after : Texts) : Type 0 where
  pub part : Part
  pub says : RawSays raw part
  pub kept : is_kept new domain ≡ true
  pub stand : (past : List Message) (time : ℕ) (parts : List Part) → StandAmid old past time domain parts → StandAmid new past time domain (parts ++ part ∷ [])
  pub given : Outcome
  pub gives : GivesOutcome old domain part given
  pub adds : AddsSets before after (decoded_in given)

-- the sets of a message whose domain is kept give this
abbrev pub GivesOutcomes : Domains → ℕ → List Part → List Outcome → Type 0
GivesOutcomes domains domain parts given = (settings : Settings) (past : List Message) (time : ℕ) → StandAmid domains past time domain []
    → outcomes_after (of_file settings) time (touches_before (of_file settings) past domain) parts ≡ given

-- the sets so far of a message were taken
pub record TakenSoFar (octets rest : List ℕ) (domain : ℕ) (old new : Domains) (before after : Texts) : Type 0 where
  pub parts : List Part
  pub said : HaveSaid octets rest parts
  pub kept : is_kept new domain ≡ true
  pub stand : (past : List Message) (time : ℕ) → StandAmid old past time domain [] → StandAmid new past time domain parts
  pub given : List Outcome
  pub gives : GivesOutcomes old domain parts given
  pub adds : AddsSets before after (decoded_sets given)

-- the sets of a message were taken
pub record TakesMessage (octets : List ℕ) (domain : ℕ) (old new : Domains) (before after : Texts) : Type 0 where
  pub parts : List Part
  pub says : Says octets (message_of octets parts)
  pub stand : (past : List Message) (time : ℕ) → StandAmid old past time domain [] → StandAmid new past time domain parts
  pub given : List Outcome
  pub gives : GivesOutcomes old domain parts given
  pub adds : AddsSets before after (decoded_sets given)

-- every input is a file
abbrev pub files : Inputs
files input = file_settings

-- the item of an arrival, behind what was read before it
abbrev pub next_item : List ReadArrival → ReadArrival → Item
next_item before a = item_of files (work_of files before a)

-- one message more of a session was taken
pub record TakesNext (key : SessionKey) (octets : List ℕ) (old new : Domains) (before after : Texts) : Type 0 where
  pub reading : Result Message Malformed
  pub reads : Reads octets reading
  pub stand : (past : List ReadArrival) → StandFor old (messages_of key past) → StandFor new (messages_of key (past ++ Raw key reading ∷ []))
  pub item : Item
  pub gives : (past : List ReadArrival) → StandFor old (messages_of key past) → next_item past (Raw key reading) ≡ item
  pub adds : AddsText before after (item_text true builtin_rows item)
