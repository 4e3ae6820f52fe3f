-- What was said so far.
use Rattle.std.proofs.Common.{◌≡◌, ℕ, ◌+◌, ◌<◌, ◌≤◌, List, [], ◌∷◌, ◌++◌, length, take, drop, get_or, map, refl, ap, sym, subst, ◌∙◌, append_assoc, append-nil}
use Rattle.std.specs.Prelude.{Result, Ok, Err, flat_map}
use Rattle.std.proofs.lemmas.List.{drop_more, drop_all}
use Rattle.site_io.specs.declared.outside.OutsideFault.{OutsideFault}
use Rattle.site_io.specs.Seen.{Seen}
use Rattle.call_spec.specs.Lines.{lines_by}
use Rattle.call_spec.specs.Summary.{count_line}
use Rattle.run_lines.specs.declared.count_row.CountRow.{CountRow}
use Rattle.run_lines.specs.Rows.{row_of}
use Rattle.run_lines.specs.Says.{Says}
use Rattle.run_lines.proofs.SayLemmas.{says_none, says_then, says_stop}

-- so much was said, and the rest is left
abbrev pub SaidSoFar : List ℕ → List ℕ → Seen → Seen → Type 0
SaidSoFar whole left a b = (front : List ℕ) × (whole ≡ front ++ left) × Says a b front (Ok tt)

pub said_none : (whole : List ℕ) (a : Seen) → SaidSoFar whole whole a a
said_none whole a = ([], refl, says_none a)

pub said_more : (whole left line rest : List ℕ) (a b c : Seen) → left ≡ line ++ rest → SaidSoFar whole left a b → Says b c line (Ok tt) → SaidSoFar whole rest a c
said_more whole left line rest a b c is s says = (s.0 ++ line, s.1 ∙ (ap (λ l. s.0 ++ l) is ∙ sym (append_assoc s.0 line rest)), says_then a b c s.0 line (Ok tt) s.2 says)

pub said_failed : (whole left line rest : List ℕ) (a b c : Seen) (f : OutsideFault) → left ≡ line ++ rest → SaidSoFar whole left a b → Says b c line (Err f) → Says a c whole (Err f)
said_failed whole left line rest a b c f is s says =
    subst (λ w. Says a c w (Err f)) (append_assoc s.0 line rest ∙ (ap (λ l. s.0 ++ l) (sym is) ∙ sym s.1)) (says_stop a c (s.0 ++ line) rest f (says_then a b c s.0 line (Err f) s.2 says))

pub said_all : (whole left : List ℕ) (a b : Seen) → left ≡ [] → SaidSoFar whole left a b → Says a b whole (Ok tt)
said_all whole left a b none s = subst (λ w. Says a b w (Ok tt)) (sym (s.1 ∙ (ap (λ l. s.0 ++ l) none ∙ append-nil s.0))) s.2

-- the next line of a walk over names
module _ {A B : Type 0} (name_of : A → List ℕ) (line : List ℕ → B → List ℕ) where
  pub next_line : (all : List A) (came : List B) (i : ℕ) (a : A) (d : B) → i < length all → i < length came → a ≡ get_or all i a
      → lines_by line (map name_of (drop i all)) (drop i came) ≡ line (name_of a) (get_or came i d) ++ lines_by line (map name_of (drop (i + 1) all)) (drop (i + 1) came)
  next_line all came i a d lt lt' is =
      ap (λ (s : List A). lines_by line (map name_of s) (drop i came)) (drop_more all i a lt ∙ ap (λ (x : A). x ∷ drop (i + 1) all) (sym is))
      ∙ ap (λ (l : List B). lines_by line (name_of a ∷ map name_of (drop (i + 1) all)) l) (drop_more came i d lt')

-- the next row of a summary, and none
pub next_row : (rows : List CountRow) (i : ℕ) (d : CountRow) → i < length rows → flat_map count_line (map row_of (drop i rows)) ≡ count_line (row_of (get_or rows i d)) ++ flat_map count_line (map row_of (drop (i + 1) rows))
next_row rows i d lt = ap (λ (l : List CountRow). flat_map count_line (map row_of l)) (drop_more rows i d lt)

pub no_rows : (rows : List CountRow) (i : ℕ) → length rows ≤ i → flat_map count_line (map row_of (drop i rows)) ≡ []
no_rows rows i le = ap (λ (l : List CountRow). flat_map count_line (map row_of l)) (drop_all i rows le)
