-- What a maker of the texts of IPFIX Files stands for, and what a message adds.
use Rattle.std.specs.Prelude.{ℕ, ◌≡◌, ◌≤◌, ◌<◌, ◌+◌, List, [], ◌++◌, Option, Some, None, map}
use Rattle.config_spec.specs.declared.conf.OutputConf.{OutputConf}
use Rattle.config_spec.specs.declared.conf.OutputKind.TheVariants.{Ipfix}
use Rattle.run_spec.specs.Work.{Item}
use Rattle.file_spec.specs.File.{file_needs, file_octets}
use Rattle.pipeline_message.specs.declared.message.DataMessage.{DataMessage}
use Rattle.pipeline_message.specs.Items.{set_of}
use Rattle.message_texts.specs.Puts.{items_at}
use Rattle.message_texts.specs.declared.texts.TextFault.{TextFault}
use Rattle.message_texts.specs.declared.texts.TextFault.TheVariants as fault
use Rattle.file_output.specs.declared.placed.PlacedSet.{PlacedSet}
use Rattle.file_output.specs.Placed.{ArePlacedSets, placed_sets_size}
use Rattle.file_output.specs.Stands.{StandsFor}
use Rattle.file_texts.specs.declared.maker.FileTexts.{FileTexts}

-- It makes the file of this output, and what it keeps of each domain is that of the items that came to it. None of their
-- definitions needs a number above the last one.
pub record Stands (output : OutputConf) (items : List Item) (t : FileTexts) : Type 0 where
  pub kind : output.kind ≡ Ipfix t.numbering.last
  pub domains : t.domains ≡ output.domains
  pub kept : StandsFor (items_at output items) t.numbering
  pub enough : file_needs (items_at output items) ≤ t.numbering.last

-- one was made of an output of files, or the output is of another kind
abbrev pub IsMadeFor : OutputConf → Option FileTexts → Type 0
IsMadeFor output None = (last : ℕ) → output.kind ≡ Ipfix last → ⊥
IsMadeFor output (Some t) = Stands output [] t

-- whatever items came before, it stands for more, and its text is what the file grows by
pub record IsGrown (output : OutputConf) (items more : List Item) (t : FileTexts) : Type 0 where
  pub stands : Stands output (items ++ more) t
  pub grows : file_octets (items_at output (items ++ more)) ≡ file_octets (items_at output items) ++ t.text

abbrev pub Grows : List Item → FileTexts → FileTexts → Type 0
Grows more old new = (output : OutputConf) (items : List Item) → Stands output items old → IsGrown output items more new

-- it stands for all that it stood for
abbrev pub Stays : FileTexts → FileTexts → Type 0
Stays old new = (output : OutputConf) (items : List Item) → Stands output items old → Stands output items new

-- a limit is met only where the items need a number above the last with those that come behind
abbrev pub NeedsMore : List Item → FileTexts → TextFault → Type 0
NeedsMore more old fault.Limit = (output : OutputConf) (items : List Item) → Stands output items old → old.numbering.last < file_needs (items_at output (items ++ more))
NeedsMore more old fault.NoMemory = Unit {0}

-- the sets are those of a message, and all together have the octets of a message at most
pub record AreSetsOf (m : DataMessage) (sets : List PlacedSet) : Type 0 where
  pub each : ArePlacedSets sets (map (set_of m.octets.value) m.sets.items)
  pub room : 16 + placed_sets_size sets ≤ 65535
