-- The events of the generator of load: one connection of messages of four records each, by turns in the domains 1 to 4.
-- In all domains at once the template changes behind every 250 messages.
use Rattle.std.specs.Prelude.{ℕ, ◌+◌, ◌*◌, ◌/◌, ◌%◌, ◌==◌, if◌then◌else◌, List, [], ◌∷◌, ◌++◌, map, sum_by}
use Rattle.col_base.specs.declared.base.Kind.TheVariants.{Template}
use Rattle.wire_spec.specs.declared.field.FieldSpec.{FieldSpec}
use Rattle.wire_spec.specs.Message.{set_id}
use Rattle.wire_spec.specs.Content.{Definition}
use Rattle.arrival_spec.specs.declared.event.Scripted.{Scripted}
use Rattle.arrival_spec.specs.declared.event.Scripted.TheVariants.{Opened, Bytes, Closed}
use Rattle.arrival_spec.specs.Numbers.{first_numbers}
use Rattle.file_spec.specs.File.{message_of, set_of, template_of}
use Rattle.load_spec.specs.Draws.{state_after, draws}

-- a field of an element of IANA
abbrev pub field : ℕ → ℕ → FieldSpec
field id len = record { pen = 0; id = id; len = len }

-- the two definitions, which are called A and B: records of 25 octets, and of 33
abbrev pub fields_a : List FieldSpec
fields_a = field 8 4 ∷ field 12 4 ∷ field 7 2 ∷ field 11 2 ∷ field 4 1 ∷ field 1 8 ∷ field 2 4 ∷ []

abbrev pub fields_b : List FieldSpec
fields_b = fields_a ++ field 152 8 ∷ []

abbrev pub defined_as : List FieldSpec → Definition
defined_as fields = record { kind = Template; scope = 0; fields = fields }

-- the place of message i among those of its domain, from 0
abbrev pub place_in_domain : ℕ → ℕ
place_in_domain i = i / 4

-- the fields of the records of a domain's message at place q
abbrev pub fields_at : ℕ → List FieldSpec
fields_at q = if q / 250 % 2 == 0 then fields_a else fields_b

-- the set that defines them under the ID 256, in the first of 250 messages
abbrev pub template_set_at : ℕ → List ℕ
template_set_at q = if q % 250 == 0 then set_of (set_id Template) (template_of 256 (defined_as (fields_at q))) else []

-- how many octets its four records have
abbrev pub records_size_at : ℕ → ℕ
records_size_at q = 4 * sum_by (λ (f : FieldSpec). f.len) (fields_at q)

-- the draws before message i
abbrev pub draws_before : ℕ → ℕ
draws_before i = sum_by (λ k. records_size_at (place_in_domain k)) (first_numbers i)

-- message i, whose records are drawn from a state
abbrev pub message_drawn : ℕ → ℕ → List ℕ
message_drawn x i =
    message_of (1000 + i) (4 * place_in_domain i) (1 + i % 4) (template_set_at (place_in_domain i) ++ set_of 256 (draws (records_size_at (place_in_domain i)) x))

-- message i of a number: the draws go on from message to message
abbrev pub load_message : ℕ → ℕ → List ℕ
load_message number i = message_drawn (state_after (draws_before i) number) i

-- so many messages of a number, and their events
abbrev pub load_messages : ℕ → ℕ → List (List ℕ)
load_messages number count = map (load_message number) (first_numbers count)

abbrev pub load_events : ℕ → ℕ → List Scripted
load_events number count = Opened 0 ∷ map (Bytes 0) (load_messages number count) ++ Closed 0 ∷ []
