-- How the addresses of one length are cut into segments: from each start up to the next one the same row decides.
use Rattle.std.specs.Prelude.{ℕ, ◌≡◌, ◌+◌, ◌-◌, ◌^◌, ◌==◌, ◌&&◌, min, if◌then◌else◌, nat_le, nat_lt, Bool, true, List, [], ◌∷◌, Option, Some, None, fold, length, map, option_and_then, slice_get}
use Rattle.std.specs.List.{AllByRecursion}
use Rattle.std.specs.List.Sorted.{IsNonDecreasingBy, IsPermutation}
use Rattle.config_spec.specs.declared.tables.AnonRow.{AnonRow}
use Rattle.anonymise_stage.specs.declared.prepared_row.PreparedRow.{PreparedRow}
use Rattle.anonymise_stage.specs.declared.segment.Segment.{Segment}

abbrev pub row_of : PreparedRow → AnonRow
row_of prepared = prepared.row

-- an address of so many octets and this number agrees with a row
abbrev pub covers_at : ℕ → ℕ → PreparedRow → Bool
covers_at octets number r = octets == length r.row.from.octets && (nat_le r.low number && nat_le number r.high)

-- a row with more bits than the one found
abbrev pub has_more : Option PreparedRow → PreparedRow → Bool
has_more None r = true
has_more (Some found) r = nat_lt found.row.from.bits r.row.from.bits

abbrev pub better_at : ℕ → ℕ → Option PreparedRow → PreparedRow → Option PreparedRow
better_at octets number found r = if covers_at octets number r && has_more found r then Some r else found

-- of the rows that agree the one with the most bits, the first of equals
abbrev pub best_at : ℕ → ℕ → List PreparedRow → Option PreparedRow
best_at octets number rows = fold (better_at octets number) None rows

-- the row of a place
abbrev pub row_at : List PreparedRow → Option ℕ → Option PreparedRow
row_at rows place = option_and_then (slice_get rows) place

-- the number behind a last one, if there is one
abbrev pub after : ℕ → ℕ
after number = min (number + 1) (2 ^ 128 - 1)

-- where the ranges of the rows of so many octets begin, and what follows them
abbrev pub bounds_of : ℕ → List PreparedRow → List ℕ
bounds_of octets [] = []
bounds_of octets (r ∷ rows) = if octets == length r.row.from.octets then r.low ∷ after r.high ∷ bounds_of octets rows else bounds_of octets rows

abbrev pub start_of : Segment → ℕ
start_of segment = segment.start

-- the segment's row decides at its start
abbrev pub Decides : ℕ → List PreparedRow → Segment → Type 0
Decides octets rows segment = row_at rows segment.found ≡ best_at octets segment.start rows

-- Segments that begin wherever some row's range begins or has ended, in order.
pub record AreSegments (octets : ℕ) (rows : List PreparedRow) (segments : List Segment) : Type 0 where
  pub bounds : IsPermutation (bounds_of octets rows) (map start_of segments)
  pub sorted : IsNonDecreasingBy start_of segments
  pub each : AllByRecursion (Decides octets rows) segments
