-- What holds of the rows of a table, row by row.
use Rattle.std.proofs.Common.{◌≡◌, ℕ, ◌+◌, Bool, true, false, not, ◌&&◌, ◌||◌, List, [], ◌∷◌, ◌++◌, Option, Some, None, Ok, Err, Result, is_some, refl, subst, ap, ◌∙◌, sym, append_assoc, append-nil}
use Rattle.std.specs.Prelude.{find, if◌then◌else◌}
use Rattle.std.specs.List.{list_any, AllByRecursion, IsDistinct}
use Rattle.std.proofs.lemmas.Bool.{and_parts}
use Rattle.toml.specs.Data.{Data, Members, as_table}
use Rattle.text_spec.specs.declared.element.Element.{Element}
use Rattle.text_spec.specs.Name.{is_at, find_element}
use Rattle.text_spec.specs.Builtin.{builtin_rows}
use Rattle.element_spec.specs.declared.fault.TableFault.{TableFault}
use Rattle.element_spec.specs.declared.fault.TableFault.TheVariants.{Duplicate, DuplicateName}
use Rattle.element_spec.specs.Faults.{and_then}
use Rattle.element_spec.specs.Names.{is_named, has_name}
use Rattle.element_spec.specs.Rows.{row_of}
use Rattle.element_spec.specs.Table.{result_added, table_added, value_added, values_added, tables_added, tree_added, tree_of, document_tables, text_added, texts_added, element_table}
use Rattle.element_spec.specs.Laws.{same_pair, same_name, AreApart, RowsStay, StayApart, TablesAreApart}

-- what a new row keeps
abbrev pub Keeps : (List Element → Type 0) → Type 0
Keeps P = (rows : List Element) (element : Element) → find_element element.pen element.id rows ≡ None → has_name element.prefix element.name rows ≡ false
    → P rows → P (rows ++ element ∷ [])

then_ok : (r : Result (List Element) TableFault) (next : List Element → Result (List Element) TableFault) (made : List Element) → and_then r next ≡ Ok made
    → (mid : List Element) × ((r ≡ Ok mid) × (next mid ≡ Ok made))
then_ok (Err fault) next made e = absurd (cc)
then_ok (Ok mid) next made e = (mid, (refl, e))

kept_row : (P : List Element → Type 0) → Keeps P → (place : ℕ) (rows : List Element) (element : Element) (made : List Element) (found : Option Element) (named : Bool)
    → find_element element.pen element.id rows ≡ found → has_name element.prefix element.name rows ≡ named → P rows
    → (if is_some found then Err (Duplicate element.pen element.id) else if named then Err (DuplicateName place) else Ok (rows ++ element ∷ [])) ≡ Ok made → P made
kept_row P keeps place rows element made (Some other) named f n p e = absurd (cc)
kept_row P keeps place rows element made None true f n p e = absurd (cc)
kept_row P keeps place rows element made None false f n p e = let same : rows ++ element ∷ [] ≡ made = cc in subst P same (keeps rows element f n p)

kept_result : (P : List Element → Type 0) → Keeps P → (place : ℕ) (rows : List Element) (r : Result Element TableFault) (made : List Element) → P rows
    → result_added place rows r ≡ Ok made → P made
kept_result P keeps place rows (Err fault) made p e = absurd (cc)
kept_result P keeps place rows (Ok element) made p e = kept_row P keeps place rows element made _ _ refl refl p e

kept_table : (P : List Element → Type 0) → Keeps P → (place : ℕ) (rows : List Element) (members : Option Members) (made : List Element) → P rows
    → table_added place rows members ≡ Ok made → P made
kept_table P keeps place rows None made p e = absurd (cc)
kept_table P keeps place rows (Some members) made p e = kept_result P keeps place rows (row_of place members) made p e

kept_values : (P : List Element → Type 0) → Keeps P → (place : ℕ) (rows : List Element) (values : List Data) (made : List Element) → P rows
    → values_added place rows values ≡ Ok made → P made
unfolding value_added
kept_values P keeps place rows [] made p e = let same : rows ≡ made = cc in subst P same p
kept_values P keeps place rows (value ∷ more) made p e =
    let step = then_ok (value_added place rows value) (λ longer. values_added (place + 1) longer more) made e in
    kept_values P keeps (place + 1) step.0 more made (kept_table P keeps place rows (as_table value) step.0 p step.1.0) step.1.1

kept_tables : (P : List Element → Type 0) → Keeps P → (rows : List Element) (values : Option (List Data)) (made : List Element) → P rows
    → tables_added rows values ≡ Ok made → P made
kept_tables P keeps rows None made p e = absurd (cc)
kept_tables P keeps rows (Some values) made p e = kept_values P keeps 0 rows values made p e

kept_tree : (P : List Element → Type 0) → Keeps P → (rows : List Element) (members : Option Members) (made : List Element) → P rows
    → tree_added rows members ≡ Ok made → P made
kept_tree P keeps rows None made p e = absurd (cc)
kept_tree P keeps rows (Some members) made p e = kept_tables P keeps rows (document_tables members) made p e

kept_text : (P : List Element → Type 0) → Keeps P → (rows made : List Element) (octets : List ℕ) → P rows → text_added rows octets ≡ Ok made → P made
unfolding text_added
kept_text P keeps rows made octets p e = kept_tree P keeps rows (tree_of octets) made p e

kept_texts : (P : List Element → Type 0) → Keeps P → (rows : List Element) (texts : List (List ℕ)) (made : List Element) → P rows → texts_added rows texts ≡ Ok made → P made
kept_texts P keeps rows [] made p e = let same : rows ≡ made = cc in subst P same p
kept_texts P keeps rows (octets ∷ more) made p e =
    let step = then_ok (text_added rows octets) (λ longer. texts_added longer more) made e in
    kept_texts P keeps step.0 more made (kept_text P keeps rows step.0 octets p step.1.0) step.1.1

-- the known rows stay in front
begins_kept : (rows : List Element) → Keeps (λ made. (more : List Element) × (made ≡ rows ++ more))
begins_kept rows longer element fresh other (more, same) = (more ++ element ∷ [], ap (λ front. front ++ element ∷ []) same ∙ append_assoc rows more (element ∷ []))

pub rows_stay : RowsStay
rows_stay rows made octets e = kept_text (λ made. (more : List Element) × (made ≡ rows ++ more)) (begins_kept rows) rows made octets ([], sym (append-nil rows)) e

all_more : {X : Type 0} (P : X → Type 0) (xs : List X) (x : X) → AllByRecursion P xs → P x → AllByRecursion P (xs ++ x ∷ [])
all_more P [] x all p = (p, tt)
all_more P (y ∷ xs) x all p = (all.0, all_more P xs x all.1 p)

distinct_more : {X : Type 0} (same : X → X → Bool) (xs : List X) (x : X) → IsDistinct same xs → AllByRecursion (λ y. same y x ≡ false) xs → IsDistinct same (xs ++ x ∷ [])
unfolding IsDistinct
distinct_more same [] x apart new = (tt, tt)
distinct_more same (y ∷ xs) x apart new = (all_more (λ z. same y z ≡ false) xs x apart.0 new.0, distinct_more same xs x apart.1 new.1)

none_case : {X : Type 0} (test : X → Bool) (x : X) (b : Bool) (rest : Option X) → test x ≡ b → (if b then Some x else rest) ≡ None → (test x ≡ false) × (rest ≡ None)
none_case test x true rest is e = absurd (cc)
none_case test x false rest is e = (is, e)

none_found : {X : Type 0} (test : X → Bool) (xs : List X) → find test xs ≡ None → AllByRecursion (λ x. test x ≡ false) xs
none_found test [] e = tt
none_found test (x ∷ xs) e = let parts = none_case test x (test x) (find test xs) refl e in (parts.0, none_found test xs parts.1)

or_none : (a b : Bool) → (a || b) ≡ false → (a ≡ false) × (b ≡ false)
or_none true b e = absurd (cc)
or_none false b e = (refl, e)

none_named : {X : Type 0} (test : X → Bool) (xs : List X) → list_any test xs ≡ false → AllByRecursion (λ x. test x ≡ false) xs
none_named test [] e = tt
none_named test (x ∷ xs) e = let parts = or_none (test x) (list_any test xs) e in (parts.0, none_named test xs parts.1)

apart_kept : Keeps AreApart
unfolding find_element has_name
apart_kept rows element fresh other apart = record {
  pairs = distinct_more same_pair rows element apart.pairs (none_found (is_at element.pen element.id) rows fresh);
  names = distinct_more same_name rows element apart.names (none_named (is_named element.prefix element.name) rows other);
}

pub stay_apart : StayApart
stay_apart rows made octets apart e = kept_text AreApart apart_kept rows made octets apart e

-- whether no two items are the same
abbrev are_distinct : {X : Type 0} → (X → X → Bool) → List X → Bool
are_distinct same [] = true
are_distinct same (x ∷ xs) = not (list_any (same x) xs) && are_distinct same xs

not-true : (b : Bool) → not b ≡ true → b ≡ false
not-true true e = sym e
not-true false e = refl

distinct_tested : {X : Type 0} (same : X → X → Bool) (xs : List X) → are_distinct same xs ≡ true → IsDistinct same xs
unfolding IsDistinct
distinct_tested same [] e = tt
distinct_tested same (x ∷ xs) e =
    let parts = and_parts (not (list_any (same x) xs)) (are_distinct same xs) e in
    (none_named (same x) xs (not-true (list_any (same x) xs) parts.0), distinct_tested same xs parts.1)

builtin_apart : AreApart builtin_rows
unfolding builtin_rows
builtin_apart = record { pairs = distinct_tested same_pair builtin_rows refl; names = distinct_tested same_name builtin_rows refl }

pub tables_are_apart : TablesAreApart
unfolding element_table
tables_are_apart texts made e = kept_texts AreApart apart_kept builtin_rows texts made builtin_apart e
