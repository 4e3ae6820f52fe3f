-- The pieces of an IPv6 address (RFC 5952, section 4).
use Rattle.std.specs.Prelude.{ℕ, ◌+◌, ◌*◌, ◌==◌, List, ◌++◌, codes, slice_index, if◌then◌else◌}
use Rattle.std.specs.Net.Text.{hex}

unfoldable pub separator : List ℕ
separator = codes ":"

-- what stands for a run of zero groups
unfoldable pub zero_groups : List ℕ
zero_groups = codes "::"

-- a group that is not the first
abbrev pub later_group : ℕ → List ℕ
later_group group = separator ++ hex group

-- whether a group is zero
abbrev pub zero_bit : ℕ → ℕ
zero_bit group = if group == 0 then 1 else 0

-- which of eight groups are zero, the first by the highest of eight bits
abbrev pub zero_set : List ℕ → ℕ
zero_set groups = 128 * zero_bit (slice_index groups 0) + 64 * zero_bit (slice_index groups 1) + 32 * zero_bit (slice_index groups 2) + 16 * zero_bit (slice_index groups 3)
    + 8 * zero_bit (slice_index groups 4) + 4 * zero_bit (slice_index groups 5) + 2 * zero_bit (slice_index groups 6) + zero_bit (slice_index groups 7)
