-- How inputs and outputs end, and what is left of a source and written to a sink then.
use Rattle.std.specs.Prelude.{ℕ, ◌≡◌, ◌⊎◌, ◌<◌, ◌≤◌, ◌^◌, Bool, true, false, List, [], ◌∷◌, ◌++◌, ⊤, Option, Some, None, length, take}
use Rattle.arrival_spec.specs.declared.event.Scripted.{Scripted}
use Rattle.arrival_spec.specs.Events.{events_of}
use Rattle.site_io.specs.Writes.{Grows, standing}
use Rattle.site_io.specs.declared.outside.OutsideFault.{OutsideFault}
use Rattle.site_io.specs.declared.outside.OutsideFault.TheVariants as fault
use Rattle.call_spec.specs.declared.end.InputEnd.{InputEnd}
use Rattle.call_spec.specs.declared.end.InputEnd.TheVariants as end
use Rattle.call_spec.specs.declared.end.OutputFault.{OutputFault}
use Rattle.call_spec.specs.declared.end.OutputFault.TheVariants as output

-- these events came off the front of what was left, where that is told
abbrev pub TakenFrom : Option (List Scripted) → Option (List Scripted) → List Scripted → Type 0
TakenFrom None new given = ⊤
TakenFrom (Some old) None given = ⊥
TakenFrom (Some old) (Some new) given = old ≡ given ++ new

-- nothing is left, where that was told
abbrev pub IsNothingLeft : Option (List Scripted) → Option (List Scripted) → Type 0
IsNothingLeft None new = ⊤
IsNothingLeft (Some old) None = ⊥
IsNothingLeft (Some old) (Some new) = new ≡ []

-- The end of a reading that gave these events. At the end nothing is left. It ends at the limit exactly where so many
-- answers were given before an end or a fault.
abbrev pub EndsReading : Option (List Scripted) → Option (List Scripted) → List Scripted → InputEnd → Type 0
EndsReading left now_left given end.End = IsNothingLeft left now_left × (length given < 2 ^ 48)
EndsReading left now_left given end.Failed = length given < 2 ^ 48
EndsReading left now_left given end.Limit = length given ≡ 2 ^ 48
EndsReading left now_left given end.Memory = ⊤

-- an input that ends after so many events, 0 being no limit, has taken them all; or it took no more than they are
abbrev pub IsFull : ℕ → List Scripted → Type 0
IsFull limit given = (0 < limit) × (length (events_of given) ≡ limit)

abbrev pub IsWithin : ℕ → List Scripted → Type 0
IsWithin limit given = (limit ≡ 0) ⊎ (length (events_of given) ≤ limit)

abbrev pub HasRoom : ℕ → List Scripted → Type 0
HasRoom limit given = (limit ≡ 0) ⊎ (length (events_of given) < limit)

-- The end of an input of a description, which ends after so many events: nothing is left of its source, or it has taken
-- them all. A source fails before that. No input has another limit yet.
abbrev pub EndsInput : ℕ → Option (List Scripted) → Option (List Scripted) → List Scripted → InputEnd → Bool → Type 0
EndsInput limit left now_left given end.End failed = (failed ≡ false) × ((IsNothingLeft left now_left × IsWithin limit given) ⊎ IsFull limit given)
EndsInput limit left now_left given end.Failed failed = (failed ≡ true) × HasRoom limit given
EndsInput limit left now_left given end.Limit failed = ⊥
EndsInput limit left now_left given end.Memory failed = IsWithin limit given

-- whether the source failed
abbrev pub source_failed : InputEnd → Bool
source_failed end.End = false
source_failed end.Failed = true
source_failed end.Limit = false
source_failed end.Memory = false

abbrev pub wants_memory : InputEnd → Bool
wants_memory end.End = false
wants_memory end.Failed = false
wants_memory end.Limit = false
wants_memory end.Memory = true

-- whether the log's sink failed, of all that may end it; and an output's
abbrev pub has_failed : Option OutsideFault → Bool
has_failed None = false
has_failed (Some fault.Failed) = true
has_failed (Some fault.NoMemory) = false

abbrev pub output_failed : Option OutputFault → Bool
output_failed None = false
output_failed (Some output.Failed) = true
output_failed (Some output.Limit) = false
output_failed (Some output.NoMemory) = false

-- a front of the text was taken, where what is held is told
abbrev pub GrowsByFront : Option (List ℕ) → Option (List ℕ) → List ℕ → Type 0
GrowsByFront old new text = (n : ℕ) × Grows old new (take n text)

-- the whole text was taken, or a front of it where it was cut off
abbrev pub GrowsAs : Bool → Option (List ℕ) → Option (List ℕ) → List ℕ → Type 0
GrowsAs false old new text = Grows old new text
GrowsAs true old new text = GrowsByFront old new text

-- a sink name that told what it held shows a text now, and no other octets
abbrev pub Holds : Option (List ℕ) → Option (List ℕ) → List ℕ → Type 0
Holds None now text = ⊤
Holds (Some old) now text = now ≡ Some text

-- the whole text, or a front of it where it was cut off
abbrev pub ShowsAs : (List ℕ → Type 0) → Bool → List ℕ → Type 0
ShowsAs Shows false text = Shows text
ShowsAs Shows true text = (n : ℕ) × Shows (take n text)

-- What a sink shows of an output that ended so, and that was cut off or not by what stands before it: its whole text; or, at
-- its limit, that of what it can hold; or else a front.
abbrev pub ShowsBy : (List ℕ → Type 0) → Bool → Option OutputFault → List ℕ → List ℕ → Type 0
ShowsBy Shows cut None text within = ShowsAs Shows cut text
ShowsBy Shows cut (Some output.Failed) text within = ShowsAs Shows true text
ShowsBy Shows cut (Some output.Limit) text within = Shows within
ShowsBy Shows cut (Some output.NoMemory) text within = ShowsAs Shows true text

-- so a sink name shows it by what it holds
abbrev pub HoldsAs : Bool → Option (List ℕ) → Option (List ℕ) → List ℕ → Type 0
HoldsAs cut old now text = ShowsAs (λ t. Holds old now t) cut text

abbrev pub HoldsBy : Bool → Option OutputFault → Option (List ℕ) → Option (List ℕ) → List ℕ → List ℕ → Type 0
HoldsBy cut f old now text within = ShowsBy (λ t. Holds old now t) cut f text within

-- and a sink that keeps the number of its octets alone, by that
abbrev pub CountsBy : Bool → Option OutputFault → ℕ → List ℕ → List ℕ → Type 0
CountsBy cut f count text within = ShowsBy (λ t. count ≡ standing (length t)) cut f text within

-- It ends at its limit only where what comes to it exceeds that, and always then, unless it was cut off before.
abbrev pub EndsOutput : Bool → Option OutputFault → Type 0 → Type 0
EndsOutput false None Exceeding = Exceeding → ⊥
EndsOutput true None Exceeding = ⊤
EndsOutput cut (Some output.Failed) Exceeding = ⊤
EndsOutput cut (Some output.Limit) Exceeding = Exceeding
EndsOutput cut (Some output.NoMemory) Exceeding = ⊤
