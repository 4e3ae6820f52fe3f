-- What stands at places of octets.
use Rattle.std.specs.Prelude.{ℕ, ◌≤◌, ◌+◌, List, length, sum_by}
use Rattle.std.specs.List.{flat_map}
use Rattle.pipeline_message.specs.declared.message.Place.{Place}
use Rattle.pipeline_message.specs.Items.{octets_at}

-- a place lies within the octets
abbrev pub IsWithin : List ℕ → Place → Type 0
IsWithin octets p = p.start + p.len ≤ length octets

-- how many octets stand at places
abbrev pub placed_size : List Place → ℕ
placed_size places = sum_by (λ (p : Place). p.len) places

-- and which, joined
abbrev pub octets_placed : List ℕ → List Place → List ℕ
octets_placed octets places = flat_map (octets_at octets) places
