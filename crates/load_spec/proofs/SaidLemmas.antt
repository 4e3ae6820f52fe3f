-- Generated messages say what they say, and have four records.
use Rattle.std.proofs.Common.{ℕ, ◌+◌, ◌*◌, Bool, true, false, List, [], ◌∷◌, ◌++◌, refl, lit≤}
use Rattle.std.specs.Prelude.{◌/◌, ◌%◌, ◌==◌, if◌then◌else◌, sum_by}
use Rattle.col_base.specs.declared.base.Kind.TheVariants.{Template}
use Rattle.col_base.specs.Numbers.{be16_at}
use Rattle.wire_spec.specs.declared.field.FieldSpec.{FieldSpec}
use Rattle.wire_spec.specs.Message.{IsSet, kind_of, set_id}
use Rattle.wire_spec.specs.Record.{IsRecords, IsSomeRecord, shortest}
use Rattle.wire_spec.specs.Content.{Part, Says, SaysPart}
use Rattle.wire_spec.specs.Content.Part.{Touches, Body}
use Rattle.wire_spec.specs.Content.Touch.{Define}
use Rattle.wire_spec.proofs.FixedLemmas.{fixed_record}
use Rattle.file_spec.specs.File.{message_of, set_of, template_of}
use Rattle.file_spec.proofs.MessageLemmas.{message_says}
use Rattle.load_spec.specs.Draws.{draws, state_after}
use Rattle.load_spec.specs.Load.{defined_as, fields_at, fields_a, fields_b, message_drawn, place_in_domain, records_size_at}
use Rattle.load_spec.specs.Said.{message_said, records_drawn}

-- the template set of fields, and what it says
abbrev template_set : List FieldSpec → List ℕ
template_set fields = set_of (set_id Template) (template_of 256 (defined_as fields))

abbrev defines : List FieldSpec → Part
defines fields = Touches (Define 256 (defined_as fields) ∷ [])

-- a data set of drawn octets
abbrev data_set : ℕ → ℕ → List ℕ
data_set n x = set_of 256 (draws n x)

-- a set, and what it says
record IsSetThatSays (octets : List ℕ) (part : Part) : Type 0 where
  is : IsSet octets
  says : SaysPart (kind_of (be16_at 0 octets)) octets part

template_a : IsSetThatSays (template_set fields_a) (defines fields_a)
template_a = record {
  is = record { unbroken = refl; whole = refl; body = (template_of 256 (defined_as fields_a) ∷ [], record { end = []; whole = refl; each = (record { front = lit≤ tt; unbroken = refl; whole = refl }, tt); ends = refl }) };
  says = (template_of 256 (defined_as fields_a) ∷ [], record { end = []; whole = refl; each = (record { front = lit≤ tt; unbroken = refl; whole = refl }, tt); ends = refl }, refl);
}

template_b : IsSetThatSays (template_set fields_b) (defines fields_b)
template_b = record {
  is = record { unbroken = refl; whole = refl; body = (template_of 256 (defined_as fields_b) ∷ [], record { end = []; whole = refl; each = (record { front = lit≤ tt; unbroken = refl; whole = refl }, tt); ends = refl }) };
  says = (template_of 256 (defined_as fields_b) ∷ [], record { end = []; whole = refl; each = (record { front = lit≤ tt; unbroken = refl; whole = refl }, tt); ends = refl }, refl);
}

data_a : (x : ℕ) → IsSetThatSays (data_set 100 x) (Body 256 (draws 100 x))
data_a x = record { is = record { unbroken = refl; whole = refl; body = tt }; says = refl }

data_b : (x : ℕ) → IsSetThatSays (data_set 132 x) (Body 256 (draws 132 x))
data_b x = record { is = record { unbroken = refl; whole = refl; body = tt }; says = refl }

-- by whether a template is due, and whether it is A
abbrev fields_if : Bool → List FieldSpec
fields_if a = if a then fields_a else fields_b

abbrev size_if : Bool → ℕ
size_if a = 4 * sum_by (λ (f : FieldSpec). f.len) (fields_if a)

abbrev Says_if : Bool → Bool → ℕ → ℕ → ℕ → ℕ → Type 0
Says_if due a export sequence domain x =
    Says (message_of export sequence domain ((if due then template_set (fields_if a) else []) ++ data_set (size_if a) x))
    (record { export = export; sequence = sequence; domain = domain; parts = (if due then defines (fields_if a) ∷ [] else []) ++ Body 256 (draws (size_if a) x) ∷ [] })

says_by : (due a : Bool) (export sequence domain x : ℕ) → Says_if due a export sequence domain x
says_by true true export sequence domain x =
    message_says export sequence domain (template_set fields_a ++ data_set 100 x) (template_set fields_a ∷ data_set 100 x ∷ []) (defines fields_a ∷ Body 256 (draws 100 x) ∷ []) refl
    (template_a.is, ((data_a x).is, tt)) (template_a.says, ((data_a x).says, tt))
says_by true false export sequence domain x =
    message_says export sequence domain (template_set fields_b ++ data_set 132 x) (template_set fields_b ∷ data_set 132 x ∷ []) (defines fields_b ∷ Body 256 (draws 132 x) ∷ []) refl
    (template_b.is, ((data_b x).is, tt)) (template_b.says, ((data_b x).says, tt))
says_by false true export sequence domain x =
    message_says export sequence domain (data_set 100 x) (data_set 100 x ∷ []) (Body 256 (draws 100 x) ∷ []) refl ((data_a x).is, tt) ((data_a x).says, tt)
says_by false false export sequence domain x =
    message_says export sequence domain (data_set 132 x) (data_set 132 x ∷ []) (Body 256 (draws 132 x) ∷ []) refl ((data_b x).is, tt) ((data_b x).says, tt)

pub message_is : (x i : ℕ) → Says (message_drawn x i) (message_said x i)
message_is x i = says_by (place_in_domain i % 250 == 0) (place_in_domain i / 250 % 2 == 0) (1000 + i) (4 * place_in_domain i) (1 + i % 4) x

-- the records of one definition
records_by : (a : Bool) (x : ℕ) → IsRecords (fields_if a) (draws (size_if a) x) (records_drawn 4 (shortest (fields_if a)) x)
records_by true x =
    let r : (y : ℕ) → IsSomeRecord fields_a (draws 25 y) = λ y. fixed_record fields_a (draws 25 y) refl refl in
    record { end = []; whole = refl; each = (r x, (r (state_after 25 x), (r (state_after 50 x), (r (state_after 75 x), tt)))); ends = lit≤ tt }
records_by false x =
    let r : (y : ℕ) → IsSomeRecord fields_b (draws 33 y) = λ y. fixed_record fields_b (draws 33 y) refl refl in
    record { end = []; whole = refl; each = (r x, (r (state_after 33 x), (r (state_after 66 x), (r (state_after 99 x), tt)))); ends = lit≤ tt }

pub records_are : (x q : ℕ) → IsRecords (fields_at q) (draws (records_size_at q) x) (records_drawn 4 (shortest (fields_at q)) x)
records_are x q = records_by (q / 250 % 2 == 0) x
