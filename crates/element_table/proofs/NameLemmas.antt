-- Printed names, whose prefixes have no colon.
use Rattle.std.proofs.Common.{◌≡◌, ℕ, List, [], ◌∷◌, ◌++◌, Bool, true, false, not, ◌&&◌, ◌||◌, eqb, eqb-true, refl, sym, ap, ap₂, ◌∙◌}
use Rattle.std.specs.Prelude.{◌==◌, Option, Some, None, option_map}
use Rattle.std.specs.List.{list_all}
use Rattle.std.specs.Str.{bytes_eq}
use Rattle.std.proofs.lemmas.Cmp.{nat_eq_equiv}
use Rattle.std.proofs.lemmas.Bool.{and_parts}
use Rattle.std.proofs.Math.Bool.{and_assoc}
use Rattle.text_spec.specs.declared.element.Element.{Element}
use Rattle.text_spec.specs.Marks.{colon}
use Rattle.text_spec.specs.Name.{printed_name, name_text, name_of, find_element}
use Rattle.element_spec.specs.Names.{is_name_octet, is_name, is_enterprise, is_prefix, has_name}
use Rattle.element_table.specs.declared.elements.Row.{Row}
use Rattle.element_table.specs.Keyed.{AreKeyed, rows_in, is_printed, has_no_colon}

not-true : (b : Bool) → not b ≡ true → b ≡ false
not-true true e = sym e
not-true false e = refl

-- a name's octet isn't a colon
other_octet : (octet : ℕ) (b : Bool) → (octet == 58) ≡ b → is_name_octet octet ≡ true → not b ≡ true
other_octet octet false e name = refl
other_octet octet true e name = let is : octet ≡ 58 = eqb-true octet 58 e in rw is at name

no_colon : (text : List ℕ) → list_all is_name_octet text ≡ true → has_no_colon text ≡ true
no_colon [] all = refl
no_colon (octet ∷ text) all =
    let parts = and_parts (is_name_octet octet) (list_all is_name_octet text) all in
    rw (other_octet octet (octet == 58) refl parts.0) (no_colon text parts.1)

pub prefix_no_colon : (text : List ℕ) → is_prefix text ≡ true → has_no_colon text ≡ true
prefix_no_colon text prefix =
    let name = and_parts (is_name text) (not (is_enterprise text)) prefix in
    no_colon text (and_parts _ (list_all is_name_octet text) name.0).1

-- printed names are equal where the prefixes and the names are
pub printed_equal : (p q n m : List ℕ) → has_no_colon p ≡ true → has_no_colon q ≡ true
    → bytes_eq (p ++ colon ++ n) (q ++ colon ++ m) ≡ (bytes_eq p q && bytes_eq n m)
unfolding colon
printed_equal [] [] n m free free' = refl
printed_equal [] (b ∷ q) n m free free' =
    let parts = and_parts (not (b == 58)) (has_no_colon q) free' in
    let other : eqb 58 b ≡ false = nat_eq_equiv.symm 58 b ∙ not-true (b == 58) parts.0 in
    rw other refl
printed_equal (a ∷ p) [] n m free free' =
    let parts = and_parts (not (a == 58)) (has_no_colon p) free in
    let other : eqb a 58 ≡ false = not-true (a == 58) parts.0 in
    rw other refl
printed_equal (a ∷ p) (b ∷ q) n m free free' =
    let left = and_parts (not (a == 58)) (has_no_colon p) free in
    let right = and_parts (not (b == 58)) (has_no_colon q) free' in
    ap (λ more. eqb a b && more) (printed_equal p q n m left.1 right.1) ∙ sym (and_assoc (eqb a b) (bytes_eq p q) (bytes_eq n m))

pub named_keyed : (e : Element) (entries : List ((ℕ × ℕ) × Row)) → has_no_colon e.prefix ≡ true → AreKeyed entries
    → is_printed (printed_name e) (rows_in entries) ≡ has_name e.prefix e.name (rows_in entries)
unfolding has_name
named_keyed e [] free keyed = refl
named_keyed e ((k, row) ∷ entries) free keyed =
    ap₂ (λ a b. a || b) (printed_equal row.element.prefix e.prefix row.element.name e.name keyed.0.prefix free) (named_keyed e entries free keyed.1)

-- the printed name of an element with a row is the name that the table gives it
pub row_name : (rows : List Element) (pen id : ℕ) (text : List ℕ) → Some text ≡ option_map printed_name (find_element pen id rows)
    → text ≡ name_text rows pen id
unfolding name_text
row_name rows pen id text e = named_case (find_element pen id rows) e
  where
    named_case : (found : Option Element) → Some text ≡ option_map printed_name found → text ≡ name_of found pen id
    named_case None e = absurd (cc)
    named_case (Some element) e = cc
