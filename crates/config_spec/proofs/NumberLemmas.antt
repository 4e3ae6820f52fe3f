-- Numbers, names and the lengths of arrays where nothing is at fault.
use Rattle.std.proofs.Common.{◌≡◌, ◌≤◌, ℕ, ℤ, pos, negsuc, Bool, true, false, ◌&&◌, nat_le, List, [], ◌∷◌, ◌++◌, length, Option, Some, None, refl, ap, suc, arith, if◌then◌else◌}
use Rattle.std.specs.Prelude.{option_and_then, is_some}
use Rattle.std.specs.Option.{unwrap_or}
use Rattle.std.specs.List.{list_all}
use Rattle.std.proofs.lemmas.Bool.{and_parts, leb-true}
use Rattle.std.proofs.lemmas.Bool.Decides.{nat_tests}
use Rattle.toml.specs.Data.{Data, Members, Items, as_str, as_array, as_table, as_integer}
use Rattle.config_spec.specs.declared.key.Key.{Key}
use Rattle.config_spec.specs.declared.key_row.Shape.{Shape}
use Rattle.config_spec.specs.declared.key_row.Shape.TheVariants as S
use Rattle.config_spec.specs.declared.key_row.Verdict.TheVariants.{WrongType}
use Rattle.config_spec.specs.Keys.{word_of, required, optional, number}
use Rattle.config_spec.specs.Fits.{value_at, text_found, text_at, within, number_fits, is_name, text_test, text_fits, items_list, is_table, is_text, is_place_item, tables_fit, places_fit, array_fits, fits}
use Rattle.config_spec.specs.Faults.{Path, verdict_fault, value_fault, key_fault, items_or_none, items_at}
use Rattle.config_spec.specs.Values.{number_within, integer_at, number_of, put_table, each_table, tables_at, put_text, each_text, texts_at}
use Rattle.config_spec.specs.Form.{IsWithin}
use Rattle.config_spec.proofs.FirstLemmas.{right_if}

pub within_range : (low high default : ℕ) (found : Option ℤ) → low ≤ default → default ≤ high → IsWithin low high (number_within low high default found)
within_range low high default None a b = (a, b)
within_range low high default (Some (negsuc n)) a b = (a, b)
within_range low high default (Some (pos n)) a b = tested (nat_le low n && nat_le n high) refl
  where
    tested : (t : Bool) → (nat_le low n && nat_le n high) ≡ t → IsWithin low high (if t then n else default)
    tested true e = let parts = and_parts (nat_le low n) (nat_le n high) e in (leb-true low n parts.0, leb-true n high parts.1)
    tested false e = (a, b)

pub number_ranged : (key : Key) (low high default : ℕ) (entries : Members) → low ≤ default → default ≤ high → IsWithin low high (number_of (number key low high default) entries)
unfolding number_of
number_ranged key low high default entries a b = within_range low high default (integer_at key entries) a b

pub required_ranged : (key : Key) (high : ℕ) (entries : Members) → number_of (required key (S.Number 0 high)) entries ≤ high
unfolding number_of
required_ranged key high entries = (within_range 0 high 0 (integer_at key entries) (omega arith) (omega arith)).1

-- a text that has to be there is right
pub text_right : (path : Path) (entries : Members) (key : Key) (shape : Shape) → ((value : Data) → fits shape entries value ≡ text_fits (text_test shape entries) (as_str value))
    → key_fault path entries (required key shape) ≡ None → text_test shape entries (text_at key entries) ≡ true
unfolding key_fault text_at
text_right path entries key shape texts e = at (value_at key entries) e
  where
    text : (o : Option (List ℕ)) → verdict_fault (path ++ word_of key) (text_fits (text_test shape entries) o) ≡ None → text_test shape entries (unwrap_or o []) ≡ true
    text None e = absurd (cc)
    text (Some s) e = right_if (path ++ word_of key) (text_test shape entries s) e

    at : (found : Option Data) → value_fault path entries (required key shape) found ≡ None → text_test shape entries (unwrap_or (option_and_then as_str found) []) ≡ true
    at None e = absurd (cc)
    at (Some value) e = text (as_str value) (rw (texts value) at e)

-- a text that may be there is right
pub found_right : (path : Path) (entries : Members) (key : Key) (shape : Shape) (text : List ℕ) → ((value : Data) → fits shape entries value ≡ text_fits (text_test shape entries) (as_str value))
    → key_fault path entries (optional key shape) ≡ None → text_found key entries ≡ Some text → text_test shape entries text ≡ true
unfolding key_fault
found_right path entries key shape text texts e there = at (value_at key entries) e there
  where
    str : (o : Option (List ℕ)) → verdict_fault (path ++ word_of key) (text_fits (text_test shape entries) o) ≡ None → o ≡ Some text → text_test shape entries text ≡ true
    str None e there = absurd (cc)
    str (Some s) e there = let same : s ≡ text = cc in rw (← same) (right_if (path ++ word_of key) (text_test shape entries s) e)

    at : (found : Option Data) → value_fault path entries (optional key shape) found ≡ None → option_and_then as_str found ≡ Some text → text_test shape entries text ≡ true
    at None e there = absurd (cc)
    at (Some value) e there = str (as_str value) (rw (texts value) at e) there

pub name_kept : (path : Path) (entries : Members) (key : Key) → key_fault path entries (required key S.Name) ≡ None → is_name (text_at key entries) ≡ true
unfolding fits text_test
name_kept path entries key e = text_right path entries key S.Name (λ value. refl) e

-- a number that has to be there is in its range
number_right : (at : Path) (least high : ℕ) (o : Option ℤ) → verdict_fault at (number_fits least high o) ≡ None → (n : ℕ) × (o ≡ Some (pos n)) × (least ≤ n) × (n ≤ high)
number_right at least high None e = absurd (cc)
number_right at least high (Some (negsuc n)) e = absurd (cc)
number_right at least high (Some (pos n)) e =
    let parts = and_parts (nat_le least n) (nat_le n high) (right_if at (nat_le least n && nat_le n high) e) in
    (n, refl, leb-true least n parts.0, leb-true n high parts.1)

pub required_number : (path : Path) (entries : Members) (key : Key) (shape : Shape) (least high : ℕ) → ((value : Data) → fits shape entries value ≡ number_fits least high (as_integer value))
    → key_fault path entries (required key shape) ≡ None → (n : ℕ) × (integer_at key entries ≡ Some (pos n)) × (least ≤ n) × (n ≤ high)
unfolding key_fault
required_number path entries key shape least high numbers e = at (value_at key entries) e
  where
    at : (found : Option Data) → value_fault path entries (required key shape) found ≡ None → (n : ℕ) × (option_and_then as_integer found ≡ Some (pos n)) × (least ≤ n) × (n ≤ high)
    at None e = absurd (cc)
    at (Some value) e = number_right (path ++ word_of key) least high (as_integer value) (rw (numbers value) at e)

pub within_same : (low high default n : ℕ) → low ≤ n → n ≤ high → number_within low high default (Some (pos n)) ≡ n
within_same low high default n a b = grind (arith, nat_tests)

-- as many tables as items, or fewer
few_tables : {X : Type 0} (value : Members → X) (items : List Data) → length (each_table value items) ≤ length items
few_tables value [] = omega arith
few_tables value (item ∷ items) = put (as_table item) (few_tables value items)
  where
    put : (o : Option Members) → length (each_table value items) ≤ length items → length (put_table value o (each_table value items)) ≤ length (item ∷ items)
    put None few = omega arith
    put (Some entries) few = omega arith

pub all_tables : {X : Type 0} (value : Members → X) (items : List Data) → list_all is_table items ≡ true → length (each_table value items) ≡ length items
all_tables value [] e = refl
all_tables value (item ∷ items) e =
    let parts = and_parts (is_table item) (list_all is_table items) e in
    put (as_table item) parts.0 (all_tables value items parts.1)
  where
    put : (o : Option Members) → is_some o ≡ true → length (each_table value items) ≡ length items → length (put_table value o (each_table value items)) ≡ length (item ∷ items)
    put None e same = absurd (cc)
    put (Some entries) e same = ap suc same

-- an array of tables that is right has a right number of them
array_counted : {X : Type 0} (value : Members → X) (at : Path) (least most : ℕ) (o : Option Items) → verdict_fault at (array_fits (tables_fit least most) o) ≡ None
    → IsWithin least most (length (each_table value (items_or_none o)))
array_counted value at least most None e = absurd (cc)
array_counted value at least most (Some items) e = fit (list_all is_table (items_list items)) refl e
  where
    fit : (t : Bool) → list_all is_table (items_list items) ≡ t
        → verdict_fault at (if t then within (nat_le least (length (items_list items)) && nat_le (length (items_list items)) most) else WrongType) ≡ None
        → IsWithin least most (length (each_table value (items_list items)))
    fit false is e = absurd (cc)
    fit true is e =
        let parts = and_parts (nat_le least (length (items_list items))) (nat_le (length (items_list items)) most) (right_if at _ e) in
        rw (all_tables value (items_list items) is) (leb-true least (length (items_list items)) parts.0, leb-true (length (items_list items)) most parts.1)

tables_alone : (at : Path) (least most : ℕ) (o : Option Items) → verdict_fault at (array_fits (tables_fit least most) o) ≡ None → list_all is_table (items_or_none o) ≡ true
tables_alone at least most None e = absurd (cc)
tables_alone at least most (Some items) e = fit (list_all is_table (items_list items)) e
  where
    fit : (t : Bool) → verdict_fault at (if t then within (nat_le least (length (items_list items)) && nat_le (length (items_list items)) most) else WrongType) ≡ None → t ≡ true
    fit false e = absurd (cc)
    fit true e = refl

-- an array that is right has tables alone
pub optional_tables : (path : Path) (entries : Members) (key : Key) (most : ℕ) → key_fault path entries (optional key (S.Tables 0 most)) ≡ None
    → list_all is_table (items_at key entries) ≡ true
unfolding key_fault fits
optional_tables path entries key most e = at (value_at key entries) e
  where
    at : (found : Option Data) → value_fault path entries (optional key (S.Tables 0 most)) found ≡ None → list_all is_table (items_or_none (option_and_then as_array found)) ≡ true
    at None e = refl
    at (Some found) e = tables_alone (path ++ word_of key) 0 most (as_array found) e

pub optional_counted : {X : Type 0} (value : Members → X) (path : Path) (entries : Members) (key : Key) (most : ℕ) → key_fault path entries (optional key (S.Tables 0 most)) ≡ None
    → length (tables_at value key entries) ≤ most
unfolding key_fault fits tables_at
optional_counted value path entries key most e = at (value_at key entries) e
  where
    at : (found : Option Data) → value_fault path entries (optional key (S.Tables 0 most)) found ≡ None → length (each_table value (items_or_none (option_and_then as_array found))) ≤ most
    at None e = omega arith
    at (Some found) e = (array_counted value (path ++ word_of key) 0 most (as_array found) e).1

pub required_counted : {X : Type 0} (value : Members → X) (path : Path) (entries : Members) (key : Key) (least most : ℕ) → key_fault path entries (required key (S.Tables least most)) ≡ None
    → IsWithin least most (length (tables_at value key entries))
unfolding key_fault fits tables_at
required_counted value path entries key least most e = at (value_at key entries) e
  where
    at : (found : Option Data) → value_fault path entries (required key (S.Tables least most)) found ≡ None → IsWithin least most (length (each_table value (items_or_none (option_and_then as_array found))))
    at None e = absurd (cc)
    at (Some found) e = array_counted value (path ++ word_of key) least most (as_array found) e

few_texts : (items : List Data) → length (each_text items) ≤ length items
few_texts [] = omega arith
few_texts (item ∷ items) = put (as_str item) (few_texts items)
  where
    put : (o : Option (List ℕ)) → length (each_text items) ≤ length items → length (put_text o (each_text items)) ≤ length (item ∷ items)
    put None few = omega arith
    put (Some text) few = omega arith

pub places_counted : (path : Path) (entries : Members) (key : Key) (most : ℕ) → key_fault path entries (optional key (S.Places most)) ≡ None → length (texts_at key entries) ≤ most
unfolding key_fault fits texts_at
places_counted path entries key most e = at (value_at key entries) e
  where
    fit : (items : Items) (t : Bool) → verdict_fault (path ++ word_of key) (if t then within (nat_le (length (items_list items)) most && list_all is_place_item (items_list items)) else WrongType) ≡ None
        → length (each_text (items_list items)) ≤ most
    fit items false e = absurd (cc)
    fit items true e =
        let parts = and_parts (nat_le (length (items_list items)) most) (list_all is_place_item (items_list items)) (right_if (path ++ word_of key) _ e) in
        let few = few_texts (items_list items) in
        let many = leb-true (length (items_list items)) most parts.0 in
        omega arith

    array : (o : Option Items) → verdict_fault (path ++ word_of key) (array_fits (places_fit most) o) ≡ None → length (each_text (items_or_none o)) ≤ most
    array None e = absurd (cc)
    array (Some items) e = fit items (list_all is_text (items_list items)) e

    at : (found : Option Data) → value_fault path entries (optional key (S.Places most)) found ≡ None → length (each_text (items_or_none (option_and_then as_array found))) ≤ most
    at None e = omega arith
    at (Some found) e = array (as_array found) e
