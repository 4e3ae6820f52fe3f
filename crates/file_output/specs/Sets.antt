-- What a message of an IPFIX File is made of, by the definitions of its domain that are known before and after it
-- (RFC 7011, sections 3.1 to 3.4).
use Rattle.std.specs.Prelude.{ℕ, ◌≡◌, ◌+◌, ◌%◌, ◌^◌, true, List, [], ◌∷◌, ◌++◌, length, map, drop, flat_map, fold, sum_by}
use Rattle.std.specs.List.{list_any}
use Rattle.wire_spec.specs.Message.{set_id}
use Rattle.wire_spec.specs.Content.{Definition}
use Rattle.file_output.specs.declared.head.Head.{Head}
use Rattle.template_spec.specs.Same.{same_definition}
use Rattle.file_spec.specs.File.{message_of, set_of, template_of, place_of, with_definition}

-- records of one definition: their octets joined, and how many they are
pub record Body : Type 0 where
  pub definition : Definition
  pub octets : List ℕ
  pub records : ℕ

-- more octets stand behind those that there were
abbrev pub Grows : List ℕ → List ℕ → Type 0
Grows old new = (more : List ℕ) × (new ≡ old ++ more)

-- a message with the sets' octets
abbrev pub message_in : Head → List ℕ → List ℕ
message_in head sets = message_of head.export head.sequence head.domain sets

-- the message of a definition's template record
abbrev pub template_in : Head → List Definition → Definition → List ℕ
template_in head known def = message_in head (set_of (set_id def.kind) (template_of (255 + place_of def known) def))

-- a data set
abbrev pub set_in : List Definition → Body → List ℕ
set_in known s = set_of (255 + place_of s.definition known) s.octets

-- the definition of records is among those that are known
abbrev pub IsIn : List Definition → Body → Type 0
IsIn known s = list_any (same_definition s.definition) known ≡ true

-- some sets, each of which has such records
module _ {X : Type 0} (body : X → Body) where
  -- the definitions that are known after the sets, in order of first use
  abbrev pub known_after : List Definition → List X → List Definition
  known_after known sets = fold with_definition known (map (λ s. (body s).definition) sets)

  -- the octets of the data sets with their headers
  abbrev pub sets_size : List X → ℕ
  sets_size sets = sum_by (λ s. 4 + length (body s).octets) sets

  abbrev pub count_records : List X → ℕ
  count_records sets = sum_by (λ s. (body s).records) sets

  -- the message of the data sets, if there are any
  abbrev pub data_in : Head → List Definition → List X → List ℕ
  data_in head known [] = []
  data_in head known (s ∷ sets) = message_in head (flat_map (λ x. set_in known (body x)) (s ∷ sets))

  -- the numbers of the sets' definitions
  abbrev pub numbers_in : List Definition → List X → List ℕ
  numbers_in known sets = map (λ s. 255 + place_of (body s).definition (known_after known sets)) sets

  -- what is written of the sets after the definitions that were known
  abbrev pub written_in : Head → List Definition → List X → List ℕ
  written_in head known sets = flat_map (template_in head (known_after known sets)) (drop (length known) (known_after known sets)) ++ data_in head (known_after known sets) sets

-- a domain's definitions that have numbers, in order of first use, and the records that are written, modulo 2^32
pub record Domain : Type 0 where
  pub known : List Definition
  pub sequence : ℕ

-- the common part of a domain's next messages
abbrev pub head_in : ℕ → ℕ → Domain → Head
head_in export domain d = record { export = export; sequence = d.sequence; domain = domain }

module _ {X : Type 0} (body : X → Body) where
  -- the domain behind a message of some sets
  abbrev pub domain_after : Domain → List X → Domain
  domain_after d sets = record { known = known_after body d.known sets; sequence = (d.sequence + count_records body sets) % 2 ^ 32 }
