-- A set in a listing.
use Rattle.std.proofs.Common.{◌≡◌, ℕ, List, ◌++◌, length, map, ap, sym, subst, ◌∙◌, append_assoc}
use Rattle.std.specs.List.{flat_map}
use Rattle.std.proofs.lemmas.List.{length-map}
use Rattle.wire_spec.specs.declared.field.FieldSpec.{FieldSpec}
use Rattle.wire_spec.specs.Content.{Definition}
use Rattle.text_spec.specs.declared.element.Element.{Element}
use Rattle.text_spec.specs.View.{set_line, view_line}
use Rattle.run_spec.specs.Records.{Record}
use Rattle.pipeline_message.specs.declared.message.Place.{Place}
use Rattle.pipeline_message.specs.Items.{record_at}
use Rattle.prepared_lines.specs.Line as prepared
use Rattle.viewer_output.specs.View.{Shows}
use Rattle.text_forms.specs.declared.kind.TextKind.{TextKind}
use Rattle.text_forms.specs.declared.kind.TextKind.TheVariants as K
use Rattle.text_forms.specs.declared.line.Line.{Line}
use Rattle.text_forms.specs.declared.line.Line.TheVariants.{View}
use Rattle.text_forms.specs.Kind.{set_in, set_text}
use Rattle.text_forms.specs.Line.{LineFits}

-- a set is listed: its own line, and its records
pub set_listed : (kind : TextKind) (table : List Element) (def : Definition) (template count : ℕ) (octets : List ℕ) (places : List Place) (this : Line) (line : prepared.Line) (before now later : List ℕ) → this ≡ View line → LineFits kind table def this
    → count ≡ length places → now ≡ before ++ set_line template count
    → ((rows : List Element) (fields : List FieldSpec) → Shows rows fields line → later ≡ now ++ flat_map (λ (r : Record). view_line rows fields r.values) (map (record_at fields octets) places))
    → later ≡ before ++ set_text kind table (set_in def template octets places)
set_listed (K.Json options) table def template count octets places this line before now later is fits many head put = absurd (subst (LineFits (K.Json options) table def) is fits)
set_listed K.View table def template count octets places this line before now later is fits many head put =
    let shows : Shows table def.fields line = subst (LineFits K.View table def) is fits in
    let records = map (record_at def.fields octets) places in
    let lines = flat_map (λ (r : Record). view_line table def.fields r.values) records in
    let size : count ≡ length records = many ∙ sym (length-map places (record_at def.fields octets)) in
    put table def.fields shows
    ∙ (ap (λ (t : List ℕ). t ++ lines) (head ∙ ap (λ n. before ++ set_line template n) size) ∙ append_assoc before (set_line template (length records)) lines)
