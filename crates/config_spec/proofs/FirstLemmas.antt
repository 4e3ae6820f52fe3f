-- Where there is no first fault there is none.
use Rattle.std.proofs.Common.{◌≡◌, ℕ, zero, suc, Bool, true, false, List, [], ◌∷◌, Option, Some, None, Result, Ok, Err, slice_get, ◌++◌, ◌+◌, refl, subst, if◌then◌else◌}
use Rattle.std.specs.Option.{option_or, unwrap_or, ok_or}
use Rattle.std.specs.Prelude.{option_and_then}
use Rattle.std.specs.List.{AllByRecursion}
use Rattle.std.specs.Str.{bytes_eq}
use Rattle.toml.specs.Data.{Data, Members, as_str, as_table}
use Rattle.config_spec.specs.declared.key.Version.{Version}
use Rattle.config_spec.specs.declared.key.Version.TheVariants as V
use Rattle.config_spec.specs.declared.key.Key.{Key}
use Rattle.config_spec.specs.declared.key.TableKind.{TableKind}
use Rattle.config_spec.specs.declared.key.TableKind.TheVariants as T
use Rattle.config_spec.specs.declared.key.TableSort.{TableSort}
use Rattle.config_spec.specs.declared.key.Choice.TheVariants.{By}
use Rattle.config_spec.specs.declared.key_row.KeyRow.{KeyRow}
use Rattle.config_spec.specs.declared.fault.ConfFault.{ConfFault}
use Rattle.config_spec.specs.Keys.{word_of, kind_word, choice_of, kinds_of, rows_of}
use Rattle.config_spec.specs.Fits.{value_at, text_at, within}
use Rattle.config_spec.specs.Faults.{Path, Check, verdict_fault, key_fault, keys_fault, unknown_fault, kind_named, strange, word_kind, value_kind, kind_of, kind_fault, table_fault, below, item_fault, items_fault, items_at, array_fault}
use Rattle.config_spec.specs.Values.{put_table, each_table, tables_at, kind_at}

-- there is one version
pub same_version : (v w : Version) → v ≡ w
same_version V.One V.One = refl

pub first_of_two : (o p : Option ConfFault) → option_or o p ≡ None → (o ≡ None) × (p ≡ None)
first_of_two None p e = (refl, e)
first_of_two (Some f) p e = absurd (cc)

same_row : (r row : KeyRow) → Some r ≡ Some row → r ≡ row
same_row r row e = cc

-- the key at a place has none
pub no_fault_at : (path : Path) (entries : Members) (rows : List KeyRow) (row : KeyRow) (i : ℕ) → keys_fault path rows entries ≡ None → slice_get rows i ≡ Some row
    → key_fault path entries row ≡ None
no_fault_at path entries [] row i none at = absurd (cc)
no_fault_at path entries (r ∷ rows) row zero none at = rw (← same_row r row at) ((first_of_two (key_fault path entries r) _ none).0)
no_fault_at path entries (r ∷ rows) row (suc i) none at = no_fault_at path entries rows row i ((first_of_two (key_fault path entries r) _ none).1) at

pub right_if : (at : Path) (b : Bool) → verdict_fault at (within b) ≡ None → b ≡ true
right_if at true e = refl
right_if at false e = absurd (cc)

-- each table of an array has none
pub each_kept : {X : Type 0} (P : X → Type 0) (value : Members → X) (check : Check) → ((path : Path) (entries : Members) → check path entries ≡ None → P (value entries))
    → (path : Path) (key : Key) (place : ℕ) (items : List Data) → items_fault check path key place items ≡ None → AllByRecursion P (each_table value items)
each_kept P value check keeps path key place [] e = tt
each_kept P value check keeps path key place (item ∷ items) e =
    let parts = first_of_two (item_fault check (below path key place) (as_table item)) _ e in
    put (as_table item) parts.0 (each_kept P value check keeps path key (place + 1) items parts.1)
  where
    put : (o : Option Members) → item_fault check (below path key place) o ≡ None → AllByRecursion P (each_table value items) → AllByRecursion P (put_table value o (each_table value items))
    put None e more = more
    put (Some entries) e more = (keeps (below path key place) entries e, more)

pub tables_kept : {X : Type 0} (P : X → Type 0) (value : Members → X) (check : Check) → ((path : Path) (entries : Members) → check path entries ≡ None → P (value entries))
    → (path : Path) (key : Key) (entries : Members) → array_fault check path key entries ≡ None → AllByRecursion P (tables_at value key entries)
unfolding array_fault tables_at
tables_kept P value check keeps path key entries e = each_kept P value check keeps path key 0 (items_at key entries) e

-- what holds of all kinds holds of the one that a word names
found_holds : (P : TableKind → Type 0) (kinds : List TableKind) (word : List ℕ) (kind : TableKind) → AllByRecursion P kinds → kind_named kinds word ≡ Some kind → P kind
found_holds P [] word kind all e = absurd (cc)
found_holds P (k ∷ kinds) word kind all e = test (bytes_eq (kind_word k) word) (found_holds P kinds word kind all.1) e
  where
    test : (b : Bool) → (kind_named kinds word ≡ Some kind → P kind) → (if b then Some k else kind_named kinds word) ≡ Some kind → P kind
    test true more e = let same : k ≡ kind = cc in subst P same all.0
    test false more e = more e

-- a kind that a table has is that of its word, and one of those that a word chooses from
pub kind_same : (P : TableKind → Type 0) (sort : TableSort) (path : Path) (entries : Members) (kind : TableKind) (key : Key) → choice_of sort ≡ By key
    → AllByRecursion P (kinds_of V.One sort) → kind_of V.One sort path entries ≡ Ok kind → (kind_at V.One sort entries ≡ kind) × P kind
unfolding kind_of kind_at text_at
kind_same P sort path entries kind key by all e = rw by (at (value_at key entries) (rw by at e))
  where
    named : (word : List ℕ) (o : Option TableKind) → kind_named (kinds_of V.One sort) word ≡ o → ok_or o (strange sort (path ++ word_of key)) ≡ Ok kind → (unwrap_or o T.Top ≡ kind) × P kind
    named word None is e = absurd (cc)
    named word (Some k) is e = let same : k ≡ kind = cc in (same, found_holds P (kinds_of V.One sort) word kind all (rw (← same) is))

    text : (o : Option (List ℕ)) → word_kind V.One sort (path ++ word_of key) o ≡ Ok kind → (unwrap_or (kind_named (kinds_of V.One sort) (unwrap_or o [])) T.Top ≡ kind) × P kind
    text None e = absurd (cc)
    text (Some word) e = named word (kind_named (kinds_of V.One sort) word) refl e

    at : (found : Option Data) → value_kind V.One sort (path ++ word_of key) found ≡ Ok kind
        → (unwrap_or (kind_named (kinds_of V.One sort) (unwrap_or (option_and_then as_str found) [])) T.Top ≡ kind) × P kind
    at None e = absurd (cc)
    at (Some value) e = text (as_str value) e

-- the kind of a table without a fault, whose keys have none
pub table_kept : (sort : TableSort) (path : Path) (entries : Members) → table_fault V.One sort path entries ≡ None
    → (kind : TableKind) × (kind_of V.One sort path entries ≡ Ok kind) × (keys_fault path (rows_of V.One kind) entries ≡ None)
unfolding table_fault
table_kept sort path entries e = at (kind_of V.One sort path entries) refl e
  where
    at : (r : Result TableKind ConfFault) → kind_of V.One sort path entries ≡ r → kind_fault V.One path entries r ≡ None
        → (kind : TableKind) × (kind_of V.One sort path entries ≡ Ok kind) × (keys_fault path (rows_of V.One kind) entries ≡ None)
    at (Err fault) is e = absurd (cc)
    at (Ok kind) is e = (kind, is, (first_of_two (unknown_fault path (rows_of V.One kind) entries) _ e).1)
