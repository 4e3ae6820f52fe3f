-- What came of all inputs, in the order in which it was taken: entries, each an item with the number of its input.
use Rattle.std.specs.Prelude.{ℕ, ◌≡◌, ◌<◌, ◌==◌, List, [], ◌∷◌, ◌++◌, filter, map}
use Rattle.std.specs.List.{AllByRecursion}
use Rattle.run_spec.specs.Work.{Item}
use Rattle.pipeline_message.specs.declared.message.Msg.{Msg}
use Rattle.pipeline_message.specs.Items.{items_of}

pub record Entry : Type 0 where
  pub input : ℕ
  pub item : Item

-- the numbers of the inputs, and the items
abbrev pub order_of : List Entry → List ℕ
order_of entries = map (λ (x : Entry). x.input) entries

abbrev pub items_in : List Entry → List Item
items_in entries = map (λ (x : Entry). x.item) entries

-- the items of one input
abbrev pub own : ℕ → List Entry → List Item
own k entries = items_in (filter (λ (x : Entry). x.input == k) entries)

-- the entry of a message of an input: none where it stands for no item
abbrev pub entries_of : ℕ → Msg → List Entry
entries_of number msg = map (λ i. record { input = number; item = i }) (items_of (msg ∷ []))

-- all entries are of this input, or of those of which there are so many
abbrev pub AreOf : ℕ → List Entry → Type 0
AreOf number entries = AllByRecursion (λ (x : Entry). x.input ≡ number) entries

abbrev pub AreKnown : ℕ → List Entry → Type 0
AreKnown count entries = AllByRecursion (λ (x : Entry). x.input < count) entries

-- whatever was taken before, these entries were taken behind it
abbrev pub Takes : {T : Type 0} → (List Entry → T → T → Type 0) → List Entry → T → T → Type 0
Takes {T} took more old new = (first : T) (entries : List Entry) → took entries first old → took (entries ++ more) first new
