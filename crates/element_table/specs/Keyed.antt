-- Rows under their pairs, and the set of their printed names.
use Rattle.std.specs.Prelude.{◌≡◌, ℕ, Bool, not, ◌==◌, List, [], ◌∷◌, map, String, IsTrue}
use Rattle.std.specs.List.{list_any, list_all}
use Rattle.std.specs.Str.{bytes_eq}
use Rattle.std.specs.BTreeSet.{BTreeSet, contains_text}
use Rattle.std.specs.declared.alloc.Global.{Global}
use Rattle.text_spec.specs.declared.element.Element.{Element}
use Rattle.text_spec.specs.Name.{printed_name}
use Rattle.element_table.specs.declared.elements.Row.{Row}

-- no octet is a colon
abbrev pub has_no_colon : List ℕ → Bool
has_no_colon text = list_all (λ octet. not (octet == 58)) text

-- a row under its pair, with its printed name
pub record IsKeyed (entry : (ℕ × ℕ) × Row) : Type 0 where
  pub pair : entry.0 ≡ (entry.1.element.pen, entry.1.element.id)
  pub printed : entry.1.printed ≡ printed_name entry.1.element
  pub prefix : IsTrue (has_no_colon entry.1.element.prefix)

abbrev pub AreKeyed : List ((ℕ × ℕ) × Row) → Type 0
AreKeyed [] = Unit {0}
AreKeyed (entry ∷ entries) = IsKeyed entry × AreKeyed entries

abbrev pub rows_in : List ((ℕ × ℕ) × Row) → List Element
rows_in entries = map (λ entry. entry.1.element) entries

-- whether a row has the printed name
abbrev pub is_printed : List ℕ → List Element → Bool
is_printed text rows = list_any (λ element. bytes_eq (printed_name element) text) rows

-- the names are the printed names of the rows
abbrev pub AreNames : BTreeSet (String Global) → List Element → Type 0
AreNames names rows = (text : List ℕ) → contains_text names text ≡ is_printed text rows
