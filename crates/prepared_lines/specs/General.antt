-- Lines whose values stand at places that are found before.
use Rattle.std.specs.Prelude.{ℕ, ◌+◌, ◌*◌, List, ◌++◌, get_or, length}
use Rattle.std.specs.List.{flat_map, sum_by}
use Rattle.text_spec.specs.Value.{value_text}
use Rattle.record_iter.specs.declared.place.ValuePlace.{ValuePlace}
use Rattle.prepared_lines.specs.declared.member.Member.{Member}
use Rattle.prepared_lines.specs.Places.{octets_at}

-- the place of the value of a field, by the field's number
abbrev pub place_at : List ValuePlace → ℕ → ValuePlace
place_at places n = get_or places n (record { at = 0; len = 0 })

-- what is put of a member whose value stands at a place
abbrev pub placed_text : List ℕ → Member → ValuePlace → List ℕ
placed_text octets member place = member.literal ++ value_text member.kind (octets_at octets place)

abbrev pub text_at : List ℕ → List ValuePlace → Member → List ℕ
text_at octets places member = placed_text octets member (place_at places member.field)

-- what is put of a record
abbrev pub placed_line : List ℕ → List ValuePlace → List Member → List ℕ → List ℕ
placed_line octets places members end = flat_map (text_at octets places) members ++ end

-- the most octets of a member: a value has at most six for each of its own, and 20
abbrev pub most_of_placed : Member → ValuePlace → ℕ
most_of_placed member place = length member.literal + (6 * place.len + 20)

abbrev pub most_at : List ValuePlace → Member → ℕ
most_at places member = most_of_placed member (place_at places member.field)

-- the most octets of a line while it is put together: a value may be put with 64 octets behind it
abbrev pub most_of_line : List ValuePlace → List Member → List ℕ → ℕ
most_of_line places members end = sum_by (most_at places) members + (length end + 64)
