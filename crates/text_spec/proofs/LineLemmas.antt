-- The line of a record whose fields are each of an element of their own.
use Rattle.std.proofs.Common.{◌≡◌, ℕ, Bool, true, false, not, ◌&&◌, ◌||◌, cond, List, [], ◌∷◌, ◌++◌, length, refl, sym, ap, ap₂, ◌∙◌, arith}
use Rattle.std.specs.Prelude.{filter, map, zip, flat_map}
use Rattle.std.specs.List.{list_any, AllByRecursion}
use Rattle.std.proofs.lemmas.Bool.{and_parts}
use Rattle.wire_spec.specs.declared.field.FieldSpec.{FieldSpec}
use Rattle.text_spec.specs.declared.element.Element.{Element}
use Rattle.text_spec.specs.Marks.{line_end}
use Rattle.text_spec.specs.Fields.{Pair, pair_of, is_of, is_pair, is_padding, different, printed_pairs, values_at, are_single}
use Rattle.text_spec.specs.Json.{Writer, json_line, line_start, single_by, member_by, values_text, text_at, member_name}
use Rattle.text_spec.specs.Laws.{SinglesOneByOne, AllOneByOne}
use Rattle.text_spec.proofs.DifferentLemmas.{is_pair-refl, is_pair-symm, kept_still}

not-true : (b : Bool) → not b ≡ true → b ≡ false
not-true true e = sym e
not-true false e = refl

or_none : (a b : Bool) → (a || b) ≡ false → (a ≡ false) × (b ≡ false)
or_none true b e = absurd (cc)
or_none false b e = (refl, e)

flat_map_same : {X A : Type 0} (f g : X → List A) (xs : List X) → AllByRecursion (λ x. f x ≡ g x) xs → flat_map f xs ≡ flat_map g xs
flat_map_same f g [] all = refl
flat_map_same f g (x ∷ xs) all = ap₂ (λ a b. a ++ b) all.0 (flat_map_same f g xs all.1)

all_mapped : {X : Type 0} (P Q : X → Type 0) → ((x : X) → P x → Q x) → (xs : List X) → AllByRecursion P xs → AllByRecursion Q xs
all_mapped P Q h [] all = tt
all_mapped P Q h (x ∷ xs) all = (h x all.0, all_mapped P Q h xs all.1)

keep_all : {X : Type 0} (keep : X → Bool) (xs : List X) → AllByRecursion (λ x. keep x ≡ true) xs → filter keep xs ≡ xs
keep_all keep [] all = refl
keep_all keep (x ∷ xs) all = rw all.0 (ap (λ more. x ∷ more) (keep_all keep xs all.1))

-- no other element is that of a field that no other field is of
apart : (field : FieldSpec) (fields : List FieldSpec) → list_any (is_of (pair_of field)) fields ≡ false
    → AllByRecursion (λ p. is_pair (pair_of field) p ≡ false) (different fields)
apart field [] none = tt
apart field (other ∷ fields) none =
    let parts = or_none (is_of (pair_of field) other) (list_any (is_of (pair_of field)) fields) none in
    (parts.0, kept_still (λ p. is_pair (pair_of field) p ≡ false) (λ o. not (is_pair (pair_of other) o)) (different fields) (apart field fields parts.1))

-- so each element comes to be printed by itself
printed_first : (field : FieldSpec) (fields : List FieldSpec) → is_padding (pair_of field) ≡ false → list_any (is_of (pair_of field)) fields ≡ false
    → printed_pairs (field ∷ fields) ≡ pair_of field ∷ printed_pairs fields
printed_first field fields plain none =
    let others : List Pair = filter (λ o. not (is_pair (pair_of field) o)) (different fields) in
    let same = keep_all (λ o. not (is_pair (pair_of field) o)) (different fields)
    (all_mapped (λ p. is_pair (pair_of field) p ≡ false) (λ p. not (is_pair (pair_of field) p) ≡ true) (λ p e. ap not e) (different fields) (apart field fields none)) in
    ap (λ b. cond (not b) (pair_of field ∷ filter (λ p. not (is_padding p)) others) (filter (λ p. not (is_padding p)) others)) plain
    ∙ ap (λ more. pair_of field ∷ filter (λ p. not (is_padding p)) more) same

-- it has no value among the other fields
no_values : (field : FieldSpec) (fields : List FieldSpec) (values : List (List ℕ)) → list_any (is_of (pair_of field)) fields ≡ false
    → values_at (pair_of field) (zip fields values) ≡ []
no_values field [] values none = refl
no_values field (other ∷ fields) [] none = refl
no_values field (other ∷ fields) (value ∷ values) none =
    let parts = or_none (is_of (pair_of field) other) (list_any (is_of (pair_of field)) fields) none in
    ap (λ b. map (λ item. item.1) (cond b ((other, value) ∷ filter (λ item. is_of (pair_of field) item.0) (zip fields values)) (filter (λ item. is_of (pair_of field) item.0) (zip fields values)))) parts.0
    ∙ no_values field fields values parts.1

-- and its own value alone
own_value : (field : FieldSpec) (value : List ℕ) (items : List (FieldSpec × List ℕ)) → is_pair (pair_of field) (pair_of field) ≡ true
    → values_at (pair_of field) items ≡ [] → values_at (pair_of field) ((field, value) ∷ items) ≡ value ∷ []
own_value field value items same none =
    ap (λ b. map (λ item. item.1) (cond b ((field, value) ∷ filter (λ item. is_of (pair_of field) item.0) items) (filter (λ item. is_of (pair_of field) item.0) items))) same
    ∙ ap (λ more. value ∷ more) none

-- another element has no value of this field
other_value : (pair : Pair) (field : FieldSpec) (value : List ℕ) (items : List (FieldSpec × List ℕ)) → is_pair (pair_of field) pair ≡ false
    → values_at pair ((field, value) ∷ items) ≡ values_at pair items
other_value pair field value items e =
    ap (λ b. map (λ item. item.1) (cond b ((field, value) ∷ filter (λ item. is_of pair item.0) items) (filter (λ item. is_of pair item.0) items))) (is_pair-symm pair (pair_of field) ∙ e)

own_member : (write : Writer) (table : List Element) (field : FieldSpec) (value : List ℕ) (items : List (FieldSpec × List ℕ))
    → values_at (pair_of field) ((field, value) ∷ items) ≡ value ∷ []
    → member_by write table ((field, value) ∷ items) (pair_of field) ≡ single_by write table (field, value)
own_member write table field value items own = ap (λ values. member_name table (pair_of field) ++ values_text (write (pair_of field)) values) own

others_same : (write : Writer) (table : List Element) (field : FieldSpec) (value : List ℕ) (fields : List FieldSpec) (items : List (FieldSpec × List ℕ))
    → list_any (is_of (pair_of field)) fields ≡ false
    → flat_map (member_by write table ((field, value) ∷ items)) (printed_pairs fields) ≡ flat_map (member_by write table items) (printed_pairs fields)
others_same write table field value fields items none =
    flat_map_same (member_by write table ((field, value) ∷ items)) (member_by write table items) (printed_pairs fields)
    (all_mapped (λ p. is_pair (pair_of field) p ≡ false) (λ p. member_by write table ((field, value) ∷ items) p ≡ member_by write table items p)
    (λ p e. ap (λ values. member_name table p ++ values_text (write p) values) (other_value p field value items e))
    (printed_pairs fields)
    (kept_still (λ p. is_pair (pair_of field) p ≡ false) (λ p. not (is_padding p)) (different fields) (apart field fields none)))

members : (write : Writer) (table : List Element) (fields : List FieldSpec) (values : List (List ℕ)) → are_single fields ≡ true → length values ≡ length fields
    → flat_map (member_by write table (zip fields values)) (printed_pairs fields) ≡ flat_map (single_by write table) (zip fields values)
members write table [] values single same = refl
members write table (field ∷ fields) [] single same = absurd (omega arith)
members write table (field ∷ fields) (value ∷ values) single same =
    let parts = and_parts (not (is_padding (pair_of field)) && not (list_any (is_of (pair_of field)) fields)) (are_single fields) single in
    let firsts = and_parts (not (is_padding (pair_of field))) (not (list_any (is_of (pair_of field)) fields)) parts.0 in
    let plain = not-true (is_padding (pair_of field)) firsts.0 in
    let none = not-true (list_any (is_of (pair_of field)) fields) firsts.1 in
    let items : List (FieldSpec × List ℕ) = zip fields values in
    let here = own_member write table field value items (own_value field value items (is_pair-refl (pair_of field)) (no_values field fields values none)) in
    let later = others_same write table field value fields items none ∙ members write table fields values parts.1 (omega arith) in
    ap (flat_map (member_by write table ((field, value) ∷ items))) (printed_first field fields plain none) ∙ ap₂ (λ a b. a ++ b) here later

pub all_one_by_one : AllOneByOne
all_one_by_one write table kind fields values single same = ap (λ text. line_start kind ++ text ++ line_end) (members write table fields values single same)

-- the line of a record whose values are written by the types of their elements
pub singles_one_by_one : SinglesOneByOne
unfolding json_line
singles_one_by_one table kind fields values single same = all_one_by_one (text_at table) table kind fields values single same
