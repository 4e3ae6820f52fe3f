-- A set is taken, whatever it is.
use Rattle.std.proofs.Common.{◌≡◌, ℕ, ◌+◌, ◌<◌, ◌≤◌, refl, arith, List, [], ◌∷◌, map, Some, None, ap, sym, subst, ◌∙◌}
use Rattle.std.specs.Prelude.{Option, Result, Ok, Err, OnOk}
use Rattle.std.specs.List.{AllByRecursion}
use Rattle.std.proofs.lemmas.Bool.{ne_eqb}
use Rattle.wire_spec.specs.Content.{Definition, Touch, Part}
use Rattle.wire_spec.specs.Content.Part.{Touches, Body}
use Rattle.wire_spec.specs.Message.{kind_of}
use Rattle.wire_spec.specs.Record.{AreSomeRecords, shortest}
use Rattle.template_spec.specs.Valid.{valid}
use Rattle.template_manager.specs.State.{State}
use Rattle.template_manager.specs.Stands.{StandsFor}
use Rattle.template_manager.specs.Snapshots.{KeepsSettings}
use Rattle.ipfix_reader.specs.declared.raw.RawSet.{RawSet}
use Rattle.ipfix_reader.specs.Walk.{RawSays, StandsIn}
use Rattle.ipfix_reader.proofs.WalkLemmas.{body_said}
use Rattle.arrival_spec.specs.Settings.{Settings}
use Rattle.run_spec.specs.Outcome.{SkipReason, by_records, by_definition}
use Rattle.run_spec.specs.Outcome.Outcome.{Skipped}
use Rattle.run_spec.specs.Outcome.SkipReason.{ReservedId, NoTemplate, NotRecords}
use Rattle.pipeline_message.specs.declared.message.Place.{Place}
use Rattle.pipeline_message.specs.Items.{record_at, IsRecordAt}
use Rattle.record_places.specs.Places.{ArePlaced}
use Rattle.message_decode.specs.declared.decoded.Decoded.{Decoded}
use Rattle.message_decode.specs.Steps.{Stands, TakesTouches, Adds, Takes}
use Rattle.message_decode.proofs.TouchLemmas.{keeps_none}
use Rattle.message_decode.proofs.StepLemmas.{takes_touches, takes_body, reserved, by_valid, placed_sound, placed_gives, unplaced_gives}

-- a set of this reason was skipped
abbrev pub Skips : Decoded → Decoded → Type 0
Skips x y = (octets : List ℕ) (reason : SkipReason) → Adds octets (Skipped reason) x y

-- what a body gives by a definition
abbrev pub AddsBy : RawSet → Option Definition → Decoded → Decoded → Type 0
AddsBy raw found x y = (octets : List ℕ) → StandsIn octets raw → Adds octets (by_definition raw.id raw.body.now found) x y

pub placed_adds : {X E : Type 0} (r : Result X E) (raw : RawSet) (def : Definition) (places : List Place) (x y : Decoded) → 0 < shortest def.fields → ArePlaced def.fields raw.body.now (raw.at + 4) places
    → OnOk r ((octets : List ℕ) → AllByRecursion (IsRecordAt def.fields octets) places → Adds octets (by_records raw.id def (Some (map (record_at def.fields octets) places))) x y) → OnOk r (AddsBy raw (Some def) x y)
placed_adds (Ok u) raw def places x y some p t = λ octets s. subst (λ o. Adds octets o x y) (placed_gives octets raw def places some s p) (t octets (placed_sound octets raw def.fields places s p))
placed_adds (Err e) raw def places x y some p t = tt

pub unplaced_adds : (raw : RawSet) (def : Definition) (x y : Decoded) → 0 < shortest def.fields → (AreSomeRecords def.fields raw.body.now → ⊥) → Skips x y → AddsBy raw (Some def) x y
unplaced_adds raw def x y some none t = λ octets s. subst (λ o. Adds octets o x y) (unplaced_gives raw.id def raw.body.now some none) (t octets NotRecords)

-- what a body gives by the definition that a manager finds
abbrev pub AddsValid : RawSet → ℕ → State → Decoded → Decoded → Type 0
AddsValid raw export m x y = (octets : List ℕ) → StandsIn octets raw → (settings : Settings) (past : List (ℕ × Touch)) → Stands settings past m
    → Adds octets (by_definition raw.id raw.body.now (valid settings.transport settings.life past export raw.id)) x y

is_valid : (m : State) (export id : ℕ) (found : Option Definition) → ((past : List (ℕ × Touch)) → StandsFor m past → found ≡ valid m.transport m.life past export id) → (settings : Settings) (past : List (ℕ × Touch)) → Stands settings past m
    → found ≡ valid settings.transport settings.life past export id
is_valid m export id found is settings past s = is past s.records ∙ (ap (λ t. valid t m.life past export id) s.transport ∙ ap (λ l. valid settings.transport l past export id) s.life)

pub found_adds : {X E : Type 0} (r : Result X E) (raw : RawSet) (export : ℕ) (m : State) (found : Option Definition) (x y : Decoded) → ((past : List (ℕ × Touch)) → StandsFor m past → found ≡ valid m.transport m.life past export raw.id)
    → OnOk r (AddsBy raw found x y) → OnOk r (AddsValid raw export m x y)
found_adds (Ok u) raw export m found x y is t = λ octets s settings past st. subst (λ f. Adds octets (by_definition raw.id raw.body.now f) x y) (is_valid m export raw.id found is settings past st) (t octets s)
found_adds (Err e) raw export m found x y is t = tt

pub unknown_adds : (raw : RawSet) (export : ℕ) (m : State) (x y : Decoded) → ((past : List (ℕ × Touch)) → StandsFor m past → None ≡ valid m.transport m.life past export raw.id) → Skips x y → AddsValid raw export m x y
unknown_adds raw export m x y is t = λ octets s settings past st. subst (λ f. Adds octets (by_definition raw.id raw.body.now f) x y) (is_valid m export raw.id None is settings past st) (t octets NoTemplate)

-- ---- a set of any ID

abbrev pub TakesSet : RawSet → ℕ → State → State → Decoded → Decoded → Type 0
TakesSet raw export old new x y = (part : Part) × RawSays raw part × KeepsSettings old new × ((octets : List ℕ) → StandsIn octets raw → Takes export octets (part ∷ []) old new x y)

pub set_of_templates : {X E : Type 0} (r : Result X E) (raw : RawSet) (export : ℕ) (old new : State) (x y : Decoded) → y.sets ≡ x.sets → y.due ≡ x.due
    → OnOk r ((touches : List Touch) × RawSays raw (Touches touches) × TakesTouches export touches old new x.counts y.counts) → OnOk r (TakesSet raw export old new x y)
set_of_templates (Ok u) raw export old new x y sets due t = (Touches t.0, t.1, t.2.keeps, λ octets s. takes_touches export octets t.0 old new x y t.2 sets due)
set_of_templates (Err e) raw export old new x y sets due t = tt

no_templates : (id : ℕ) → 256 ≤ id → kind_of id ≡ None
no_templates id high = rw (ne_eqb id 2 (λ e. omega arith), ne_eqb id 3 (λ e. omega arith)) refl

pub set_of_data : {X E : Type 0} (r : Result X E) (raw : RawSet) (export : ℕ) (m : State) (x y : Decoded) → 256 ≤ raw.id → OnOk r (AddsValid raw export m x y) → OnOk r (TakesSet raw export m m x y)
set_of_data (Ok u) raw export m x y high t = (
  Body raw.id raw.body.now,
  body_said raw (no_templates raw.id high),
  keeps_none m,
  λ octets s. takes_body export raw.id octets raw.body.now m x y (λ settings past st. subst (λ o. Adds octets o x y) (sym (by_valid settings export raw.id past raw.body.now high)) (t octets s settings past st)),
)
set_of_data (Err e) raw export m x y high t = tt

pub set_reserved : (raw : RawSet) (export : ℕ) (m : State) (x y : Decoded) → raw.id < 256 → kind_of raw.id ≡ None → Skips x y → TakesSet raw export m m x y
set_reserved raw export m x y low none t = (
  Body raw.id raw.body.now,
  body_said raw none,
  keeps_none m,
  λ octets s. takes_body export raw.id octets raw.body.now m x y (λ settings past st. subst (λ o. Adds octets o x y) (sym (reserved settings export raw.id past raw.body.now low)) (t octets ReservedId)),
)
