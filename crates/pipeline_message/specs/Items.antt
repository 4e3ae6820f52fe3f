-- What messages between stages stand for: items, whose records stand at places of the octets.
use Rattle.std.specs.Prelude.{ℕ, ◌≡◌, ◌≢◌, ◌≤◌, ◌+◌, ⊤, Bool, true, false, List, [], ◌∷◌, Option, Some, None, map, take, drop, length}
use Rattle.std.specs.List.{AllByRecursion, filter_map}
use Rattle.wire_spec.specs.declared.field.FieldSpec.{FieldSpec}
use Rattle.wire_spec.specs.Record.{IsSomeRecord}
use Rattle.run_spec.specs.Records.{Record, record_of}
use Rattle.run_spec.specs.Outcome.{DecodedSet}
use Rattle.run_spec.specs.Work.{Item}
use Rattle.run_spec.specs.Work.Item.{Note, Tick, Data}
use Rattle.file_spec.specs.Fit.{message_octets}
use Rattle.pipeline_message.specs.declared.message.Place.{Place}
use Rattle.pipeline_message.specs.declared.message.DataSet.{DataSet}
use Rattle.pipeline_message.specs.declared.message.DataMessage.{DataMessage}
use Rattle.pipeline_message.specs.declared.message.Msg.{Msg}
use Rattle.pipeline_message.specs.declared.message.Msg.TheVariants.{SessionMsg, DataMsg, Periodic, Terminate}

-- what stands at a place
abbrev pub octets_at : List ℕ → Place → List ℕ
octets_at octets p = take p.len (drop p.start octets)

-- the record of these fields at a place
abbrev pub record_at : List FieldSpec → List ℕ → Place → Record
record_at fields octets p = record_of fields (octets_at octets p)

-- a set of a message of these octets
abbrev pub set_of : List ℕ → DataSet → DecodedSet
set_of octets s = record { id = s.template; definition = s.def.value; records = map (record_at s.def.value.fields octets) s.places.items }

abbrev pub data_of : DataMessage → Item
data_of m = Data m.session m.domain m.export m.seq (map (set_of m.octets.value) m.sets.items)

-- the item that a message stands for, if any
abbrev pub item_of : Msg → Option Item
item_of (SessionMsg note) = Some (Note note.key note.transport note.opened)
item_of (DataMsg m) = Some (data_of m.value)
item_of (Periodic input seconds) = Some (Tick input seconds)
item_of Terminate = None

-- the items that a list of messages stands for
abbrev pub items_of : List Msg → List Item
items_of list = filter_map item_of list

-- one record of these fields stands at a place within the octets
abbrev pub IsRecordAt : List FieldSpec → List ℕ → Place → Type 0
IsRecordAt fields octets p = (p.start + p.len ≤ length octets) × IsSomeRecord fields (octets_at octets p)

-- a set has a place, and one record of its definition stands at each
abbrev pub IsSoundSet : List ℕ → DataSet → Type 0
IsSoundSet octets s = (s.places.items ≢ []) × AllByRecursion (IsRecordAt s.def.value.fields octets) s.places.items

-- each set is sound, and a message has room for all their records
abbrev pub IsSound : DataMessage → Type 0
IsSound m = AllByRecursion (IsSoundSet m.octets.value) m.sets.items × (message_octets (map (set_of m.octets.value) m.sets.items) ≤ 65535)

-- a data message is sound
abbrev pub IsSoundMessage : Msg → Type 0
IsSoundMessage (SessionMsg note) = ⊤
IsSoundMessage (DataMsg m) = IsSound m.value
IsSoundMessage (Periodic input seconds) = ⊤
IsSoundMessage Terminate = ⊤
