-- Lines of records, place by place.
use Rattle.std.proofs.Common.{◌≡◌, ℕ, Bool, true, false, cond, List, [], ◌∷◌, ◌++◌, map, refl, ap, sym, subst, ◌∙◌, append_assoc, append-nil}
use Rattle.std.specs.List.{flat_map}
use Rattle.std.proofs.lemmas.List.{map-append}
use Rattle.std.proofs.lemmas.Grind.{flat_map-append}
use Rattle.wire_spec.specs.declared.field.FieldSpec.{FieldSpec}
use Rattle.wire_spec.specs.Content.{Definition}
use Rattle.wire_spec.specs.Record.{IsRecord}
use Rattle.wire_spec.specs.Values.{values_of}
use Rattle.wire_spec.proofs.ValuesLemmas.{values_are}
use Rattle.text_spec.specs.declared.element.Element.{Element}
use Rattle.text_spec.specs.View.{view_line}
use Rattle.run_spec.specs.Records.{Record}
use Rattle.run_spec.specs.Result.{record_text, is_printed}
use Rattle.pipeline_message.specs.declared.message.Place.{Place}
use Rattle.pipeline_message.specs.Items.{octets_at, record_at}
use Rattle.prepared_lines.specs.Line.{Line, PutsLine, line_text}
use Rattle.prepared_lines.proofs.LineLemmas.{values_many}
use Rattle.json_output.specs.Printed.{PutsRecord, printed_text, records_text}
use Rattle.viewer_output.specs.View.{Shows}

printed_more : (options : Bool) (table : List Element) (def : Definition) (records : List Record) (r : Record) → records_text options table def (records ++ r ∷ []) ≡ records_text options table def records ++ printed_text options table def r.values
printed_more options table def records r = by_test (is_printed options def.kind)
  where
    by_test : (b : Bool) → cond b (flat_map (record_text table def) (records ++ r ∷ [])) [] ≡ cond b (flat_map (record_text table def) records) [] ++ cond b (record_text table def r) []
    by_test true = flat_map-append (record_text table def) records (r ∷ []) ∙ ap (λ (l : List ℕ). flat_map (record_text table def) records ++ l) (append-nil (record_text table def r))
    by_test false = refl

-- no line of JSON yet
pub json_none : (options : Bool) (table : List Element) (def : Definition) (before : List ℕ) → before ≡ before ++ records_text options table def []
json_none options table def before = by_test (is_printed options def.kind)
  where
    by_test : (b : Bool) → before ≡ before ++ cond b [] []
    by_test true = sym (append-nil before)
    by_test false = sym (append-nil before)

-- one line more
pub json_more : (options : Bool) (table : List Element) (def : Definition) (octets : List ℕ) (places : List Place) (p : Place) (rec before now later : List ℕ) → now ≡ before ++ records_text options table def (map (record_at def.fields octets) places)
    → rec ≡ octets_at octets p → PutsRecord options table def rec now later → later ≡ before ++ records_text options table def (map (record_at def.fields octets) (places ++ p ∷ []))
json_more options table def octets places p rec before now later text is put =
    let f = record_at def.fields octets in
    let values : put.0 ≡ values_of def.fields (octets_at octets p) = sym (values_are def.fields rec put.0 put.1) ∙ ap (values_of def.fields) is in
    let more : records_text options table def (map f (places ++ p ∷ [])) ≡ records_text options table def (map f places) ++ printed_text options table def put.0 =
    ap (records_text options table def) (map-append f places (p ∷ [])) ∙ (printed_more options table def (map f places) (f p) ∙ ap (λ (v : List (List ℕ)). records_text options table def (map f places) ++ printed_text options table def v) (sym values)) in
    put.2 ∙ (ap (λ (t : List ℕ). t ++ printed_text options table def put.0) text ∙ (append_assoc before _ _ ∙ ap (λ (t : List ℕ). before ++ t) (sym more)))

-- and one of a listing
pub view_more : (table : List Element) (fields : List FieldSpec) (line : Line) → Shows table fields line → (octets : List ℕ) (places : List Place) (p : Place) (rec before now later : List ℕ)
    → now ≡ before ++ flat_map (λ (r : Record). view_line table fields r.values) (map (record_at fields octets) places) → rec ≡ octets_at octets p → PutsLine line rec now later
    → later ≡ before ++ flat_map (λ (r : Record). view_line table fields r.values) (map (record_at fields octets) (places ++ p ∷ []))
view_more table fields line s octets places p rec before now later text is put =
    let f = record_at fields octets in
    let g = λ (r : Record). view_line table fields r.values in
    let record_is : IsRecord fields rec put.0 = subst (λ (fs : List FieldSpec). IsRecord fs rec put.0) s.fields_are put.1 in
    let values : put.0 ≡ values_of fields (octets_at octets p) = sym (values_are fields rec put.0 record_is) ∙ ap (values_of fields) is in
    let shown : line_text line put.0 ≡ g (f p) = s.text put.0 (values_many fields rec put.0 record_is) ∙ ap (view_line table fields) values in
    let more : flat_map g (map f (places ++ p ∷ [])) ≡ flat_map g (map f places) ++ line_text line put.0 =
    ap (flat_map g) (map-append f places (p ∷ [])) ∙ (flat_map-append g (map f places) (f p ∷ []) ∙ ap (λ (l : List ℕ). flat_map g (map f places) ++ l) (append-nil (g (f p)) ∙ sym shown)) in
    put.2 ∙ (ap (λ (t : List ℕ). t ++ line_text line put.0) text ∙ (append_assoc before _ _ ∙ ap (λ (t : List ℕ). before ++ t) (sym more)))
