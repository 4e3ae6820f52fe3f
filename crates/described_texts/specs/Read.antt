-- What came of the steps of reading a description and its element files.
use Rattle.std.specs.Prelude.{ℕ, ◌≡◌, ◌≢◌, ⊤, List, Result, Ok, Err}
use Rattle.text_spec.specs.declared.element.Element.{Element}
use Rattle.config_spec.specs.Description.{description}
use Rattle.element_spec.specs.Table.{text_added}
use Rattle.site_io.specs.Seen.{Seen, TextSeen, TextRefuses}
use Rattle.call_spec.specs.Came.{Refusal as Reason}
use Rattle.call_spec.specs.Came.Refusal.{NoText, BadDescription, BadElements, NoMemory}
use Rattle.call_spec.specs.Texts.{IsText, Reaches, Breaks}
use Rattle.described_texts.specs.declared.verdict.Refusal.{Refusal}
use Rattle.described_texts.specs.declared.verdict.Refusal.TheVariants as refusal

-- a refusal as the definitions have it
abbrev pub reason_of : Refusal → Reason
reason_of (refusal.NoText name) = NoText name
reason_of (refusal.BadDescription fault) = BadDescription fault
reason_of (refusal.BadElements name fault) = BadElements name fault
reason_of refusal.Memory = NoMemory

-- why element files in order are refused
abbrev pub RefusesFiles : (List ℕ → TextSeen) → List (List ℕ) → Refusal → Type 0
RefusesFiles text names (refusal.NoText name) = Reaches text names name
RefusesFiles text names (refusal.BadDescription fault) = ⊥
RefusesFiles text names (refusal.BadElements name fault) = Breaks text names name fault
RefusesFiles text names refusal.Memory = ⊤

-- that text failed, and no other has changed
pub record OneFails (name : List ℕ) (old new : List ℕ → TextSeen) : Type 0 where
  pub refuses : TextRefuses (old name) (new name)
  pub others : (other : List ℕ) → other ≢ name → new other ≡ old other

-- the text that was refused has failed, and else no text has changed
abbrev pub CountsTexts : {T : Type 0} → (List ℕ → TextSeen) → (List ℕ → TextSeen) → Result T Refusal → Type 0
CountsTexts old new (Ok x) = new ≡ old
CountsTexts old new (Err (refusal.NoText name)) = OneFails name old new
CountsTexts old new (Err (refusal.BadDescription fault)) = new ≡ old
CountsTexts old new (Err (refusal.BadElements name fault)) = new ≡ old
CountsTexts old new (Err refusal.Memory) = new ≡ old

-- places, sinks and what was said are as they were
pub record KeepsRest (old new : Seen) : Type 0 where
  pub places : new.place ≡ old.place
  pub sinks : new.sink ≡ old.sink
  pub say : new.say ≡ old.say

-- a text was not read
abbrev pub IsUnread : List ℕ → Refusal → Type 0
IsUnread name (refusal.NoText n) = n ≡ name
IsUnread name (refusal.BadDescription fault) = ⊥
IsUnread name (refusal.BadElements n fault) = ⊥
IsUnread name refusal.Memory = ⊤

-- octets stand for no description
abbrev pub HasFault : List ℕ → Refusal → Type 0
HasFault octets (refusal.NoText name) = ⊥
HasFault octets (refusal.BadDescription fault) = description octets ≡ Err fault
HasFault octets (refusal.BadElements name fault) = ⊥
HasFault octets refusal.Memory = ⊤

-- the rows of octets were added, or not
abbrev pub AddsText : List ℕ → List ℕ → List Element → List Element → Result (Unit {0}) Refusal → Type 0
AddsText name octets rows now (Ok done) = text_added rows octets ≡ Ok now
AddsText name octets rows now (Err (refusal.NoText n)) = ⊥
AddsText name octets rows now (Err (refusal.BadDescription fault)) = ⊥
AddsText name octets rows now (Err (refusal.BadElements n fault)) = (n ≡ name) × (text_added rows octets ≡ Err fault)
AddsText name octets rows now (Err refusal.Memory) = ⊤

-- the rows of an element file were added, or not
abbrev pub AddsFile : (List ℕ → TextSeen) → List ℕ → List Element → List Element → Result (Unit {0}) Refusal → Type 0
AddsFile text name rows now (Ok done) = (octets : List ℕ) × IsText text name octets × (text_added rows octets ≡ Ok now)
AddsFile text name rows now (Err (refusal.NoText n)) = n ≡ name
AddsFile text name rows now (Err (refusal.BadDescription fault)) = ⊥
AddsFile text name rows now (Err (refusal.BadElements n fault)) = (n ≡ name) × ((octets : List ℕ) × IsText text name octets × (text_added rows octets ≡ Err fault))
AddsFile text name rows now (Err refusal.Memory) = ⊤
