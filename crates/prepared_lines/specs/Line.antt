-- A line that is prepared for the records of a definition.
use Rattle.std.specs.Prelude.{ℕ, ◌≡◌, Bool, nat_lt, List, [], ◌++◌, get_or}
use Rattle.std.specs.List.{flat_map}
use Rattle.wire_spec.specs.declared.field.FieldSpec.{FieldSpec}
use Rattle.wire_spec.specs.Record.{IsRecord}
use Rattle.text_spec.specs.Value.{value_text}
use Rattle.prepared_lines.specs.declared.member.Member.{Member}

-- the fields of the records, the members of their line in order, and what ends it
pub record Line : Type 0 where
  pub fields : List FieldSpec
  pub members : List Member
  pub end : List ℕ

-- a value of a record, by the number of its field
abbrev pub value_at : List (List ℕ) → ℕ → List ℕ
value_at values n = get_or values n []

-- what is put of a member: its octets, and the text of its value
abbrev pub member_text : List (List ℕ) → Member → List ℕ
member_text values member = member.literal ++ value_text member.kind (value_at values member.field)

abbrev pub members_text : List Member → List (List ℕ) → List ℕ
members_text members values = flat_map (member_text values) members

-- the line of a record
abbrev pub line_text : Line → List (List ℕ) → List ℕ
line_text line values = members_text line.members values ++ line.end

-- the line of a record is put behind what was there
abbrev pub PutsLine : Line → List ℕ → List ℕ → List ℕ → Type 0
PutsLine line rec before now = (values : List (List ℕ)) × IsRecord line.fields rec values × (now ≡ before ++ line_text line values)

-- a member's field is one of the record's
abbrev pub is_within : ℕ → Member → Bool
is_within count member = nat_lt member.field count
