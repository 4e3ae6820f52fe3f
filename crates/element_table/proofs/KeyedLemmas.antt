-- Rows under their pairs beside the list of the rows.
use Rattle.std.proofs.Common.{◌≡◌, ℕ, List, [], ◌∷◌, ◌++◌, Bool, true, false, cond, ◌&&◌, ◌||◌, Option, Some, None, String, Global, string_bytes, refl, Bor}
use Rattle.std.specs.Prelude.{option_map, option_copied, ◌==◌}
use Rattle.std.specs.Map.{lookup}
use Rattle.std.specs.List.{AllZip}
use Rattle.std.specs.Str.{bytes_eq}
use Rattle.std.specs.BTreeSet.{BTreeSet, contains_text}
use Rattle.std.proofs.lemmas.List.{map-append}
use Rattle.std.proofs.lemmas.List.Elements.{same_from_all_zip}
use Rattle.text_spec.specs.declared.element.Element.{Element}
use Rattle.text_spec.specs.Name.{find_element, printed_name}
use Rattle.element_table.specs.declared.elements.Row.{Row}
use Rattle.element_table.specs.Keyed.{IsKeyed, AreKeyed, rows_in, is_printed}

-- whether a key is this pair
abbrev pub is_key : ℕ → ℕ → ℕ × ℕ → Bool
is_key pen id key = (pen == key.0) && (id == key.1)

mapped_case : {X Y : Type 0} (f : X → Y) (b : Bool) (x : X) (o : Option X) → option_map f (cond b (Some x) o) ≡ cond b (Some (f x)) (option_map f o)
mapped_case f true x o = refl
mapped_case f false x o = refl

pub find_keyed : (pen id : ℕ) (entries : List ((ℕ × ℕ) × Row)) → AreKeyed entries
    → option_map (λ row. row.element) (lookup (is_key pen id) entries) ≡ find_element pen id (rows_in entries)
unfolding find_element
find_keyed pen id [] keyed = refl
find_keyed pen id ((k, row) ∷ entries) keyed = rw (keyed.0.pair, mapped_case (λ (r : Row). r.element), find_keyed pen id entries keyed.1)

pub printed_keyed : (pen id : ℕ) (entries : List ((ℕ × ℕ) × Row)) → AreKeyed entries
    → option_map (λ row. row.printed) (lookup (is_key pen id) entries) ≡ option_map printed_name (find_element pen id (rows_in entries))
unfolding find_element
printed_keyed pen id [] keyed = refl
printed_keyed pen id ((k, row) ∷ entries) keyed =
    rw (keyed.0.pair, mapped_case (λ (r : Row). r.printed), mapped_case printed_name, printed_keyed pen id entries keyed.1, keyed.0.printed)

-- what is seen of a row behind a reference
pub seen_through : {X : Type 0} (f : Row → X) (o : Option (Bor Row)) → option_map (λ row. f row.now) o ≡ option_map f (option_copied o)
seen_through f None = refl
seen_through f (Some row) = refl

-- a row is looked up where none is only if no row has the pair
pub absent : (pen id : ℕ) (entries : List ((ℕ × ℕ) × Row)) → AreKeyed entries → find_element pen id (rows_in entries) ≡ None
    → lookup (is_key pen id) entries ≡ None
absent pen id entries keyed none = nothing (lookup (is_key pen id) entries) (rw (← find_keyed pen id entries keyed) at none)
  where
    nothing : (o : Option Row) → option_map (λ row. row.element) o ≡ None → o ≡ None
    nothing None e = refl
    nothing (Some row) e = absurd (cc)

pub keyed_more : (entries : List ((ℕ × ℕ) × Row)) (e : (ℕ × ℕ) × Row) → AreKeyed entries → IsKeyed e → AreKeyed (entries ++ e ∷ [])
keyed_more [] e keyed new = (new, tt)
keyed_more (p ∷ entries) e keyed new = (keyed.0, keyed_more entries e keyed.1 new)

pub rows_more : (entries : List ((ℕ × ℕ) × Row)) (e : (ℕ × ℕ) × Row) → rows_in (entries ++ e ∷ []) ≡ rows_in entries ++ e.1.element ∷ []
rows_more entries e = map-append (λ p. p.1.element) entries (e ∷ [])

pub printed_more : (text : List ℕ) (rows : List Element) (e : Element) → is_printed text (rows ++ e ∷ []) ≡ cond (bytes_eq (printed_name e) text) true (is_printed text rows)
printed_more text [] e = one (bytes_eq (printed_name e) text)
  where
    one : (b : Bool) → (b || false) ≡ cond b true false
    one true = refl
    one false = refl
printed_more text (f ∷ rows) e = rw (printed_more text rows e) (swapped (bytes_eq (printed_name f) text) (bytes_eq (printed_name e) text) (is_printed text rows))
  where
    swapped : (a b c : Bool) → (a || cond b true c) ≡ cond b true (a || c)
    swapped true true c = refl
    swapped true false c = refl
    swapped false true c = refl
    swapped false false c = refl

-- a copy of the names has the same names
contains_same : (ks ls : List (String Global)) (q : List ℕ) → AllZip (λ s t. string_bytes t ≡ string_bytes s) ks ls → contains_text (record { keys = ls }) q ≡ contains_text (record { keys = ks }) q
contains_same [] [] q same = refl
contains_same (k ∷ ks) [] q same = absurd same
contains_same [] (l ∷ ls) q same = absurd same
contains_same (k ∷ ks) (l ∷ ls) q same = rw (same.0, contains_same ks ls q same.1)

pub names_same : (s t : BTreeSet (String Global)) (q : List ℕ) → AllZip (λ s t. string_bytes t ≡ string_bytes s) s.keys t.keys → contains_text t q ≡ contains_text s q
names_same s t q same = contains_same s.keys t.keys q same

same_entry : (p q : (ℕ × ℕ) × Row) → ((q.0.0 ≡ p.0.0) × (q.0.1 ≡ p.0.1)) × (q.1 ≡ p.1) → q ≡ p
same_entry ((a, b), e) ((c, d), f) ((h, i), j) = cc

-- copies of the entries are the entries
pub entries_same : (es fs : List ((ℕ × ℕ) × Row)) → AllZip (λ p q. ((q.0.0 ≡ p.0.0) × (q.0.1 ≡ p.0.1)) × (q.1 ≡ p.1)) es fs → fs ≡ es
entries_same es fs h = same_from_all_zip _ es fs h same_entry
