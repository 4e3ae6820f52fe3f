-- Lines whose values all have a shape.
use Rattle.std.specs.Prelude.{ℕ, ◌+◌, Bool, nat_le, List, ◌++◌, take, drop}
use Rattle.std.specs.List.{flat_map}
use Rattle.prepared_lines.specs.Shape.{width, shape_text}
use Rattle.prepared_lines.specs.declared.shape.Shape.{Shape}
use Rattle.prepared_lines.specs.declared.hot.HotMember.{HotMember}

-- the value at a place of a record
abbrev pub value_at : List ℕ → ℕ → Shape → List ℕ
value_at octets at shape = take (width shape) (drop at octets)

-- a member's value lies in a record of so many octets
abbrev pub is_inside : ℕ → HotMember → Bool
is_inside size member = nat_le (member.at + width member.shape) size

-- what is put of a member
abbrev pub hot_text : List ℕ → HotMember → List ℕ
hot_text octets member = member.literal ++ shape_text member.shape (value_at octets member.at member.shape)

-- what is put of a record
abbrev pub hot_line : List ℕ → List HotMember → List ℕ → List ℕ
hot_line octets members end = flat_map (hot_text octets) members ++ end
