-- A description without a fault has its parts.
use Rattle.std.proofs.Common.{◌≡◌, ◌≤◌, ◌==◌, ℕ, Bool, true, false, not, ◌&&◌, nat_le, List, [], ◌∷◌, ◌++◌, length, Option, Some, None, Ok, Ordering, Less, Equal, Greater, refl, subst, sym, arith, if◌then◌else◌}
use Rattle.std.specs.Prelude.{option_map, is_some}
use Rattle.std.specs.Option.{option_or}
use Rattle.std.specs.List.{list_all}
use Rattle.std.specs.Ordering.{nat_cmp, is_eq, match_ordering}
use Rattle.std.specs.Cmp.Lexicographic.{slice_cmp}
use Rattle.std.specs.Str.{bytes_eq}
use Rattle.std.proofs.lemmas.Bool.{and_parts, le-leb}
use Rattle.std.proofs.lemmas.Bool.Decides.{nat_tests}
use Rattle.std.proofs.lemmas.Map.Text.{is_eq-slice_cmp}
use Rattle.std.proofs.lemmas.Slice.Eq.{bytes_eq-Decides}
use Rattle.toml.specs.Data.{Data, Members, no_members, member, get_member}
use Rattle.config_spec.specs.declared.key.Version.{Version}
use Rattle.config_spec.specs.declared.key.Version.TheVariants as V
use Rattle.config_spec.specs.declared.key.Key.TheVariants as K
use Rattle.config_spec.specs.declared.key.TableKind.TheVariants as T
use Rattle.config_spec.specs.declared.key_row.KeyRow.{KeyRow}
use Rattle.config_spec.specs.declared.fault.ConfFault.{ConfFault}
use Rattle.config_spec.specs.declared.fault.ConfFault.TheVariants.{UnknownKey, NoInput, NoOutput, NoOrderLog}
use Rattle.config_spec.specs.Keys as row
use Rattle.config_spec.specs.Keys.{word_of, rows_of, children_of}
use Rattle.config_spec.specs.Fits.{text_found, is_table}
use Rattle.config_spec.specs.Faults.{Path, is_known, unknown_words, least, unknown_fault, key_fault, keys_fault, own_fault, arrays_fault, whole_fault, items_at, is_one_table, top_kind, version_of, tables_fault}
use Rattle.config_spec.specs.Values.{each_table, tables_at, input_of, conf_in, conf_of}
use Rattle.config_spec.specs.Repeats.{repeat_fault, names_of, paths_of, prefixes_fault}
use Rattle.config_spec.specs.Form.{HasParts}
use Rattle.config_spec.specs.Description.{fault_if, no_input, no_output, no_order_log, tree_fault, unless_fault, tree_of, tree_conf, description}
use Rattle.config_spec.proofs.NumberLemmas.{optional_tables, all_tables}
use Rattle.config_spec.specs.Laws.{HaveParts}
use Rattle.config_spec.proofs.FirstLemmas.{first_of_two, no_fault_at}

same_word : (rows : List KeyRow) (word w : List ℕ) → is_known rows word ≡ false → is_known rows w ≡ true → is_eq (slice_cmp nat_cmp word w) ≡ false
same_word rows word w unknown known = either (bytes_eq word w) refl
  where
    either : (b : Bool) → bytes_eq word w ≡ b → is_eq (slice_cmp nat_cmp word w) ≡ false
    either true is = let same : word ≡ w = (bytes_eq-Decides word w).0 is in let other : is_known rows w ≡ false = rw (← same) unknown in absurd (cc)
    either false is = rw is-eq is
      where
        is-eq : is_eq (slice_cmp nat_cmp word w) ≡ bytes_eq word w
        is-eq = is_eq-slice_cmp word w

-- without an unknown key a word that is none of the keys has no value
known_only : (rows : List KeyRow) (word : List ℕ) (entries : Members) → is_known rows word ≡ false → least (unknown_words rows entries) ≡ None → get_member word entries ≡ None
known_only rows word no_members unknown e = refl
known_only rows word (member w value entries) unknown e = known (is_known rows w) refl (λ none. known_only rows word entries unknown none) e
  where
    rest : get_member word entries ≡ None → (o : Ordering) → is_eq o ≡ false → match_ordering o (get_member word entries) (Some value) (get_member word entries) ≡ None
    rest none Less e = none
    rest none Equal e = absurd (cc)
    rest none Greater e = none

    known : (b : Bool) → is_known rows w ≡ b → (least (unknown_words rows entries) ≡ None → get_member word entries ≡ None)
        → least (if not b then w ∷ unknown_words rows entries else unknown_words rows entries) ≡ None → get_member word (member w value entries) ≡ None
    known false is more e = absurd (cc)
    known true is more e = rest (more e) (slice_cmp nat_cmp word w) (same_word rows word w unknown is)

no_least : (path : Path) (o : Option (List ℕ)) → option_map (λ word. UnknownKey (path ++ word)) o ≡ None → o ≡ None
no_least path None e = refl
no_least path (Some word) e = absurd (cc)

not_set : (fault : ConfFault) (b : Bool) → fault_if fault b ≡ None → b ≡ false
not_set fault true e = absurd (cc)
not_set fault false e = refl

not_empty : (n : ℕ) → (n == 0) ≡ false → 1 ≤ n
not_empty n e = grind (arith, nat_tests)

-- tables that aren't one table are none or several
many : (items : List Data) → is_one_table items ≡ false → list_all is_table items ≡ true → 1 ≤ length items → 2 ≤ length items
many [] e all h = absurd (omega arith)
many (v ∷ []) e all h = let yes = and_parts (is_table v) true all in absurd (cc)
many (v ∷ w ∷ rest) e all h = omega arith

-- a single input has no order log beside it
no_log : (entries : Members) → unknown_fault [] (rows_of V.One T.SingleTop) entries ≡ None → text_found K.OrderLog entries ≡ None
unfolding unknown_fault rows_of word_of
no_log entries e =
    let none = known_only (rows_of V.One T.SingleTop) (word_of K.OrderLog) entries refl (no_least [] (least (unknown_words (rows_of V.One T.SingleTop) entries)) e) in
    rw none refl

input_fits : (entries : Members) → keys_fault [] (rows_of V.One T.Top) entries ≡ None → key_fault [] entries row.input ≡ None
unfolding rows_of
input_fits entries e = no_fault_at [] entries (rows_of V.One T.Top) row.input 5 e refl

log_needs : (entries : Members) → tables_fault entries ≡ None → 1 ≤ length (tables_at (input_of (version_of entries)) K.Input entries) → is_some (text_found K.OrderLog entries) ≡ true
    → 2 ≤ length (tables_at (input_of (version_of entries)) K.Input entries)
unfolding tables_fault top_kind tables_at
log_needs entries e some log = by (version_of entries) (is_one_table (items_at K.Input entries)) refl some e
  where
    by : (v : Version) (b : Bool) → is_one_table (items_at K.Input entries) ≡ b → 1 ≤ length (each_table (input_of v) (items_at K.Input entries))
        → option_or (own_fault [] (rows_of v (if b then T.SingleTop else T.Top)) entries) (arrays_fault (whole_fault v) [] (children_of v (if b then T.SingleTop else T.Top)) entries) ≡ None
        → 2 ≤ length (each_table (input_of v) (items_at K.Input entries))
    by V.One true is some e =
        let own = first_of_two (own_fault [] (rows_of V.One T.SingleTop) entries) _ e in
        let none = no_log entries (first_of_two (unknown_fault [] (rows_of V.One T.SingleTop) entries) (keys_fault [] (rows_of V.One T.SingleTop) entries) own.0).0 in
        let other : is_some (text_found K.OrderLog entries) ≡ false = rw none refl in
        absurd (cc)
    by V.One false is some e =
        let own = first_of_two (own_fault [] (rows_of V.One T.Top) entries) _ e in
        let all = optional_tables [] entries K.Input 16 (input_fits entries (first_of_two (unknown_fault [] (rows_of V.One T.Top) entries) (keys_fault [] (rows_of V.One T.Top) entries) own.0).1) in
        let same = all_tables (input_of V.One) (items_at K.Input entries) all in
        let two = many (items_at K.Input entries) is all (subst (λ n. 1 ≤ n) same some) in
        subst (λ n. 2 ≤ n) (sym same) two

log_there : (n : ℕ) (b : Bool) → (nat_le 2 n && not b) ≡ false → 2 ≤ n → b ≡ true
log_there n true e h = refl
log_there n false e h = let two = le-leb 2 n h in absurd (grind (arith, nat_tests))

parts_kept : (entries : Members) → tree_fault entries ≡ None → HasParts (conf_of entries)
unfolding tree_fault conf_in
parts_kept entries e =
    let tables = first_of_two (tables_fault entries) _ e in
    let input = first_of_two (no_input (conf_of entries)) _ tables.1 in
    let output = first_of_two (no_output (conf_of entries)) _ input.1 in
    let names = first_of_two (repeat_fault (names_of (conf_of entries))) _ output.1 in
    let paths = first_of_two (repeat_fault (paths_of (conf_of entries))) _ names.1 in
    let prefixes = first_of_two (prefixes_fault (items_at K.Intermediate entries)) _ paths.1 in
    let log = first_of_two (no_order_log (conf_of entries)) _ prefixes.1 in
    let some = not_empty (length (conf_of entries).inputs) (not_set NoInput _ input.0) in
    record {
      inputs = some;
      outputs = not_empty (length (conf_of entries).outputs) (not_set NoOutput _ output.0);
      log = (log_needs entries tables.0 some, log_there (length (conf_of entries).inputs) (is_some (conf_of entries).order_log) (not_set NoOrderLog _ log.0));
    }

pub have_parts : HaveParts
unfolding description
have_parts octets conf e = tree (tree_of octets) e
  where
    fault : (entries : Members) (o : Option ConfFault) → tree_fault entries ≡ o → unless_fault (conf_of entries) o ≡ Ok conf → HasParts conf
    fault entries (Some f) is e = absurd (cc)
    fault entries None is e = let same : conf_of entries ≡ conf = cc in subst HasParts same (parts_kept entries is)

    tree : (o : Option Members) → tree_conf o ≡ Ok conf → HasParts conf
    tree None e = absurd (cc)
    tree (Some entries) e = fault entries (tree_fault entries) refl e
