-- Connections by number.
use Rattle.std.proofs.Common.{◌≡◌, ℕ, Bool, true, false, not, List, [], ◌∷◌, ◌++◌, Option, Some, None, refl, ap, sym, ◌∙◌, map, filter, option_map, nat_eq}
use Rattle.std.specs.Prelude.{find}
use Rattle.std.specs.List.{IsDistinct}
use Rattle.std.specs.Map.{keys_of, lookup, remove_entry}
use Rattle.std.proofs.lemmas.Bool.{eqb-true, eqb-false}
use Rattle.session_table.specs.Rows.{conn_row, conn_is, session_of_conn}
use Rattle.session_table.proofs.RowLemmas.{found, absent, one_goes}

pub eq_turns : (a b : ℕ) → nat_eq a b ≡ nat_eq b a
eq_turns a b = by (nat_eq a b) refl (nat_eq b a) refl
  where
    by : (p : Bool) → nat_eq a b ≡ p → (q : Bool) → nat_eq b a ≡ q → nat_eq a b ≡ nat_eq b a
    by true h true g = h ∙ sym g
    by false h false g = h ∙ sym g
    by true h false g = absurd (eqb-false b a g (sym (eqb-true a b h)))
    by false h true g = absurd (eqb-false a b h (sym (eqb-true b a g)))

agrees : (c : ℕ) (e : ℕ × ℕ) → conn_is c (conn_row e) ≡ nat_eq c e.0
agrees c e = eq_turns e.0 c

option_same : {X : Type 0} (r : Option X) → option_map (λ x. x) r ≡ r
option_same None = refl
option_same (Some x) = refl

pub session_found : (c : ℕ) (es : List (ℕ × ℕ)) → lookup (nat_eq c) es ≡ option_map session_of_conn (find (conn_is c) (map conn_row es))
session_found c es = sym (option_same (lookup (nat_eq c) es)) ∙ found conn_row nat_eq c (conn_is c) (agrees c) (λ x. x) session_of_conn (λ e. refl) es

pub no_session : (c : ℕ) (es : List (ℕ × ℕ)) → find (conn_is c) (map conn_row es) ≡ None → lookup (nat_eq c) es ≡ None
no_session c es = absent conn_row nat_eq c (conn_is c) (agrees c) es

pub session_goes : (c : ℕ) (es : List (ℕ × ℕ)) → IsDistinct nat_eq (keys_of es) → map conn_row (remove_entry (nat_eq c) es) ≡ filter (λ x. not (conn_is c x)) (map conn_row es)
session_goes c es = one_goes conn_row nat_eq c (conn_is c) (agrees c) (λ x h. sym (eqb-true c x h)) es

pub row_joins : (es : List (ℕ × ℕ)) (c session : ℕ) → map conn_row (es ++ (c, session) ∷ []) ≡ map conn_row es ++ record { conn = c; session = session } ∷ []
row_joins [] c session = refl
row_joins (e ∷ es) c session = ap (λ l. conn_row e ∷ l) (row_joins es c session)
