-- What a filter is prepared to for the records of one definition.
use Rattle.std.specs.Prelude.{ℕ, ◌≡◌, ◌+◌, ◌==◌, ◌&&◌, if◌then◌else◌, Bool, true, List, [], ◌∷◌, filter, map, take, drop}
use Rattle.std.specs.List.{AllByRecursion, list_any}
use Rattle.wire_spec.specs.declared.field.FieldSpec.{FieldSpec}
use Rattle.wire_spec.specs.Size.{are_fixed}
use Rattle.record_iter.specs.declared.place.ValuePlace.{ValuePlace}
use Rattle.config_spec.specs.declared.tables.FilterTable.{FilterTable}
use Rattle.config_spec.specs.declared.tables.Rule.{Rule}
use Rattle.config_spec.specs.declared.tables.Test.{Test}
use Rattle.act_spec.specs.Filter.{passes}
use Rattle.filter_stage.specs.declared.rule.PreparedRule.{PreparedRule}
use Rattle.filter_stage.specs.declared.prepared.PreparedFilter.{PreparedFilter}

-- a field has the rule's element
abbrev pub has_element : Rule → FieldSpec → Bool
has_element rule f = f.pen == rule.pen && f.id == rule.id

-- some field does: else the rule matches no record
abbrev pub applies : List FieldSpec → Rule → Bool
applies fields rule = list_any (has_element rule) fields

-- where the values of these fields stand in each record, if no field varies in length: the first one at this octet
abbrev pub places_of : Rule → ℕ → List FieldSpec → List ValuePlace
places_of rule at [] = []
places_of rule at (f ∷ fields) = if has_element rule f then record { at = at; len = f.len } ∷ places_of rule (at + f.len) fields else places_of rule (at + f.len) fields

-- a value at one of the places passes
abbrev pub passes_at : Test → List ValuePlace → List ℕ → Bool
passes_at test places octets = list_any (λ p. passes test (take p.len (drop p.at octets))) places

abbrev pub rule_of : PreparedRule → Rule
rule_of prepared = prepared.rule

-- the rule's places are those of its fields
abbrev pub HasPlaces : List FieldSpec → PreparedRule → Type 0
HasPlaces fields prepared = prepared.places.items ≡ places_of prepared.rule 0 fields

-- The table's rules that apply, in their order, with the places of their fields where no field varies in length.
pub record Suits (table : FilterTable) (fields : List FieldSpec) (prepared : PreparedFilter) : Type 0 where
  pub default : prepared.default_keep ≡ table.default_keep
  pub fixed : prepared.is_fixed ≡ are_fixed fields
  pub rules : map rule_of prepared.rules.items ≡ filter (applies fields) table.rules
  pub places : are_fixed fields ≡ true → AllByRecursion (HasPlaces fields) prepared.rules.items
