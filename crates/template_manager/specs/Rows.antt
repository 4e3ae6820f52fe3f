-- The rows of a table, for a snapshot.
use Rattle.std.specs.Prelude.{ℕ, ◌≡◌, ◌<◌, ◌+◌, List, [], ◌∷◌, ◌++◌, map}
use Rattle.std.specs.List.{AllByRecursion}
use Rattle.std.specs.declared.sync.Arc.{Arc}
use Rattle.std.specs.declared.alloc.Global.{Global}
use Rattle.wire_spec.specs.Content.{Definition}
use Rattle.template_history.specs.declared.version.Version.{Version}
use Rattle.template_snapshot.specs.Entry.{Entry}

-- of each ID a row for each thing, with its time and its definition
abbrev pub entry_of : {X : Type 0} → (X → ℕ) → (X → Definition) → ℕ → X → Entry
entry_of n d id x = record { id = id; t = n x; definition = d x }

abbrev pub rows_of : {X : Type 0} → (X → ℕ) → (X → Definition) → List (ℕ × List X) → List Entry
rows_of n d [] = []
rows_of n d (e ∷ es) = map (entry_of n d e.0) e.1 ++ rows_of n d es

-- over UDP, with the export time of the message that gave it
abbrev pub version_entry : ℕ → Version → Entry
version_entry id v = entry_of (λ (w : Version). w.t) (λ w. w.def.value) id v

abbrev pub timed_rows : List (ℕ × List Version) → List Entry
timed_rows es = rows_of (λ (w : Version). w.t) (λ w. w.def.value) es

-- over TCP and in files, at 0
abbrev pub stream_entry : ℕ × Arc Definition Global → Entry
stream_entry e = record { id = e.0; t = 0; definition = e.1.value }

-- no two of one ID both lie so many seconds behind a time
abbrev pub NoTwoBehind : ℕ → ℕ → List Entry → Type 0
NoTwoBehind late greatest [] = Unit {0}
NoTwoBehind late greatest (r ∷ rows) = AllByRecursion (λ s. r.id ≡ s.id → r.t + late < greatest → s.t + late < greatest → ⊥) rows × NoTwoBehind late greatest rows
