-- What an accepted element table is like.
use Rattle.std.specs.Prelude.{◌≡◌, ℕ, Bool, List, ◌++◌, Ok}
use Rattle.std.specs.List.{IsDistinct}
use Rattle.text_spec.specs.declared.element.Element.{Element}
use Rattle.text_spec.specs.Name.{is_at}
use Rattle.element_spec.specs.Names.{is_named}
use Rattle.element_spec.specs.Table.{text_added, element_table}

abbrev pub same_pair : Element → Element → Bool
same_pair row other = is_at other.pen other.id row

abbrev pub same_name : Element → Element → Bool
same_name row other = is_named other.prefix other.name row

-- no two rows have one pair, and no two have one name
pub record AreApart (rows : List Element) : Type 0 where
  pub pairs : IsDistinct same_pair rows
  pub names : IsDistinct same_name rows

-- a text puts its rows behind those that are known
abbrev pub RowsStay : Type 0
RowsStay = (rows made : List Element) (octets : List ℕ) → text_added rows octets ≡ Ok made → (more : List Element) × (made ≡ rows ++ more)

-- and keeps rows apart that were
abbrev pub StayApart : Type 0
StayApart = (rows made : List Element) (octets : List ℕ) → AreApart rows → text_added rows octets ≡ Ok made → AreApart made

-- the rows of the built-in elements and of any texts are apart
abbrev pub TablesAreApart : Type 0
TablesAreApart = (texts : List (List ℕ)) (made : List Element) → element_table texts ≡ Ok made → AreApart made
