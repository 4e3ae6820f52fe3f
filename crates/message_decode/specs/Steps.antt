-- What the sets of a message add to what was found, by the template records that a manager stands for.
use Rattle.std.specs.Prelude.{ℕ, ◌≡◌, List, [], ◌∷◌, ◌++◌, map, flat_map, sum_by, count_by}
use Rattle.std.specs.List.{AllByRecursion}
use Rattle.wire_spec.specs.Content.{Touch, Part, Says}
use Rattle.wire_spec.specs.Content.Part.{Touches}
use Rattle.template_spec.specs.declared.outcome.Taken.{Taken}
use Rattle.template_spec.specs.declared.outcome.Taken.TheVariants.{New, Same, Redefined, Withdrawn, Ignored}
use Rattle.template_spec.specs.Changes.{count_after, redefines}
use Rattle.template_manager.specs.State.{State}
use Rattle.template_manager.specs.Stands.{StandsFor}
use Rattle.template_manager.specs.Snapshots.{KeepsSettings}
use Rattle.arrival_spec.specs.Settings.{Settings}
use Rattle.run_spec.specs.Touches.{dated}
use Rattle.run_spec.specs.Outcome.{Outcome, outcomes_after, decoded_in, decoded_sets}
use Rattle.ipfix_reader.specs.Walk.{message_of}
use Rattle.count_spec.specs.Counts.{is_skipped, records_in, left_out, next_number}
use Rattle.count_spec.specs.Shown.{shown_number}
use Rattle.pipeline_message.specs.declared.message.DataSet.{DataSet}
use Rattle.pipeline_message.specs.Items.{set_of, IsSoundSet}
use Rattle.pipeline_message.specs.Shown.{adds}
use Rattle.message_decode.specs.declared.counts.SetCounts.{SetCounts}
use Rattle.message_decode.specs.declared.decoded.Decoded.{Decoded}
use Rattle.message_decode.specs.Due.{due_behind, due_after}

-- a manager of these settings stands for these template records
pub record Stands (settings : Settings) (past : List (ℕ × Touch)) (m : State) : Type 0 where
  pub transport : m.transport ≡ settings.transport
  pub life : m.life ≡ settings.life
  pub records : StandsFor m past

-- what became of one template record is counted
abbrev pub counted_as : Taken → SetCounts → SetCounts
counted_as New c = c
counted_as Same c = c
counted_as Redefined c = record c { redefined = adds c.redefined 1 }
counted_as Withdrawn c = c
counted_as Ignored c = record c { ignored = adds c.ignored 1 }

-- template records of an export time were taken, behind those before: each counts from its place on
pub record TouchesFound (settings : Settings) (time : ℕ) (past : List (ℕ × Touch)) (touches : List Touch) (m : State) (before after : SetCounts) : Type 0 where
  pub stands : Stands settings (past ++ dated settings.transport time (Touches touches)) m
  pub redefined : after.redefined ≡ adds before.redefined (count_after (redefines settings.transport settings.life) past (dated settings.transport time (Touches touches)))
  pub ignored : after.ignored ≡ adds before.ignored (left_out settings (Touches touches))
  pub records : after.records ≡ before.records
  pub skipped : after.skipped ≡ before.skipped

-- whatever template records stand before them
pub record TakesTouches (time : ℕ) (touches : List Touch) (old new : State) (before after : SetCounts) : Type 0 where
  pub keeps : KeepsSettings old new
  pub found : (settings : Settings) (past : List (ℕ × Touch)) → Stands settings past old → TouchesFound settings time past touches new before after

-- each set has a place in the message, and one record of its definition stands at each
abbrev pub AreSound : List ℕ → List DataSet → Type 0
AreSound octets sets = AllByRecursion (IsSoundSet octets) sets

-- one set without template records is added to what was found
pub record Adds (octets : List ℕ) (o : Outcome) (before after : Decoded) : Type 0 where
  pub sets : map (set_of octets) after.sets.items ≡ map (set_of octets) before.sets.items ++ decoded_in o
  pub sound : AreSound octets before.sets.items → AreSound octets after.sets.items
  pub records : after.counts.records ≡ adds before.counts.records (records_in (o ∷ []))
  pub skipped : after.counts.skipped ≡ adds before.counts.skipped (count_by is_skipped (o ∷ []))
  pub ignored : after.counts.ignored ≡ before.counts.ignored
  pub redefined : after.counts.redefined ≡ before.counts.redefined
  pub due : after.due ≡ due_behind before.due o

-- sets of an export time behind these template records were taken: each template record counts from its place on, and what
-- the definitions give for the sets stands behind what was found before
pub record Found (settings : Settings) (time : ℕ) (octets : List ℕ) (past : List (ℕ × Touch)) (parts : List Part) (m : State) (before after : Decoded) : Type 0 where
  pub stands : Stands settings (past ++ flat_map (dated settings.transport time) parts) m
  pub sets : map (set_of octets) after.sets.items ≡ map (set_of octets) before.sets.items ++ decoded_sets (outcomes_after settings time past parts)
  pub sound : AreSound octets before.sets.items → AreSound octets after.sets.items
  pub records : after.counts.records ≡ adds before.counts.records (records_in (outcomes_after settings time past parts))
  pub skipped : after.counts.skipped ≡ adds before.counts.skipped (count_by is_skipped (outcomes_after settings time past parts))
  pub ignored : after.counts.ignored ≡ adds before.counts.ignored (sum_by (left_out settings) parts)
  pub redefined : after.counts.redefined ≡ adds before.counts.redefined (count_after (redefines settings.transport settings.life) past (flat_map (dated settings.transport time) parts))
  pub due : after.due ≡ due_after before.due (outcomes_after settings time past parts)

-- whatever template records stand before them
pub record Takes (time : ℕ) (octets : List ℕ) (parts : List Part) (old new : State) (before after : Decoded) : Type 0 where
  pub keeps : KeepsSettings old new
  pub found : (settings : Settings) (past : List (ℕ × Touch)) → Stands settings past old → Found settings time octets past parts new before after

-- nothing was found yet in a message of this sequence number
pub record Begins (sequence : ℕ) (x : Decoded) : Type 0 where
  pub sets : x.sets.items ≡ []
  pub counts : x.counts ≡ record { records = 0; skipped = 0; ignored = 0; redefined = 0 }
  pub due : x.due ≡ next_number sequence []

-- what is found in a message of this export time and sequence number is what the definitions give for its sets
pub record Gives (settings : Settings) (time sequence : ℕ) (octets : List ℕ) (past : List (ℕ × Touch)) (parts : List Part) (m : State) (found : Decoded) : Type 0 where
  pub stands : Stands settings (past ++ flat_map (dated settings.transport time) parts) m
  pub sets : map (set_of octets) found.sets.items ≡ decoded_sets (outcomes_after settings time past parts)
  pub sound : AreSound octets found.sets.items
  pub records : found.counts.records ≡ shown_number (records_in (outcomes_after settings time past parts))
  pub skipped : found.counts.skipped ≡ shown_number (count_by is_skipped (outcomes_after settings time past parts))
  pub ignored : found.counts.ignored ≡ shown_number (sum_by (left_out settings) parts)
  pub redefined : found.counts.redefined ≡ shown_number (count_after (redefines settings.transport settings.life) past (flat_map (dated settings.transport time) parts))
  pub due : found.due ≡ next_number sequence (outcomes_after settings time past parts)

-- the sets of a message were taken, whatever template records stand before them: it says these parts
pub record Decodes (time : ℕ) (octets : List ℕ) (sequence : ℕ) (old new : State) (found : Decoded) : Type 0 where
  pub keeps : KeepsSettings old new
  pub parts : List Part
  pub says : Says octets (message_of octets parts)
  pub gives : (settings : Settings) (past : List (ℕ × Touch)) → Stands settings past old → Gives settings time sequence octets past parts new found
