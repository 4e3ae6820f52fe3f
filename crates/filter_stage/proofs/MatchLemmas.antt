-- A record's fields decide one by one whether a rule matches.
use Rattle.std.proofs.Common.{◌≡◌, ℕ, true, false, List, ◌++◌, Some, None, drop, ap, sym, ◌∙◌}
use Rattle.std.specs.Prelude.{◌||◌}
use Rattle.std.proofs.Math.Seq.{drop-append_seam}
use Rattle.wire_spec.specs.declared.field.FieldSpec.{FieldSpec}
use Rattle.wire_spec.specs.Values.{size_of, value_of, values_of}
use Rattle.wire_spec.proofs.ValuesLemmas.{value_is, size_is}
use Rattle.record_iter.specs.declared.value.FieldValue.{FieldValue}
use Rattle.record_iter.specs.Walk.{BeginsValue, GivesField}
use Rattle.config_spec.specs.declared.tables.Rule.{Rule}
use Rattle.act_spec.specs.Filter.{matches}
use Rattle.filter_stage.specs.Field.{field_passes}

-- The value of a field, and what is left behind it.
pub value_begun : (len : ℕ) (octets value rest : List ℕ) → BeginsValue len octets value rest → value_of len octets ≡ value
value_begun len octets value rest b = ap (value_of len) b.joined ∙ value_is len b.first value rest b.encoded

pub rest_begun : (len : ℕ) (octets value rest : List ℕ) → BeginsValue len octets value rest → drop (size_of len octets) octets ≡ rest
rest_begun len octets value rest b =
    ap (λ o. drop (size_of len o) o) b.joined ∙ (ap (λ n. drop n (b.first ++ rest)) (size_is len b.first value rest b.encoded) ∙ drop-append_seam b.first rest)

-- One field: it decides, or those that are left do.
pub field_decides : (rule : Rule) (fields : List FieldSpec) (at : ℕ) (octets : List ℕ) (found : FieldValue) (more : List FieldSpec) (to : ℕ) (rest : List ℕ)
    → GivesField fields at octets (Some found) more to rest
    → matches rule fields (values_of fields octets) ≡ (field_passes rule found.spec found.value.now || matches rule more (values_of more rest))
field_decides rule fields at octets found more to rest g =
    let f = g.0 in
    let b = g.2.begins in
    ap (λ (fs : List FieldSpec). matches rule fs (values_of fs octets)) g.1
    ∙ (ap (λ v. field_passes rule f v || matches rule more (values_of more (drop (size_of f.len octets) octets))) (value_begun f.len octets found.value.now rest b)
    ∙ (ap (λ r. field_passes rule f found.value.now || matches rule more (values_of more r)) (rest_begun f.len octets found.value.now rest b)
    ∙ ap (λ (h : FieldSpec). field_passes rule h found.value.now || matches rule more (values_of more rest)) (sym g.2.spec)))

-- No field is left.
pub none_matches : (rule : Rule) (fields : List FieldSpec) (at : ℕ) (octets : List ℕ) (more : List FieldSpec) (to : ℕ) (rest : List ℕ)
    → GivesField fields at octets None more to rest → matches rule fields (values_of fields octets) ≡ false
none_matches rule fields at octets more to rest g = ap (λ (fs : List FieldSpec). matches rule fs (values_of fs octets)) g.0

-- Where a field passes, the rule matches; where it doesn't, the others decide.
pub passes_matches : (rule : Rule) (fields : List FieldSpec) (at : ℕ) (octets : List ℕ) (found : FieldValue) (more : List FieldSpec) (to : ℕ) (rest : List ℕ)
    → GivesField fields at octets (Some found) more to rest → field_passes rule found.spec found.value.now ≡ true → matches rule fields (values_of fields octets) ≡ true
passes_matches rule fields at octets found more to rest g e =
    field_decides rule fields at octets found more to rest g ∙ ap (λ b. b || matches rule more (values_of more rest)) e

pub others_match : (rule : Rule) (fields : List FieldSpec) (at : ℕ) (octets : List ℕ) (found : FieldValue) (more : List FieldSpec) (to : ℕ) (rest : List ℕ)
    → GivesField fields at octets (Some found) more to rest → field_passes rule found.spec found.value.now ≡ false → matches rule fields (values_of fields octets) ≡ matches rule more (values_of more rest)
others_match rule fields at octets found more to rest g e =
    field_decides rule fields at octets found more to rest g ∙ ap (λ b. b || matches rule more (values_of more rest)) e
