-- Lines that grow piece by piece.
use Rattle.std.proofs.Common.{◌≡◌, ℕ, List, [], ◌++◌, length, refl, ap, sym, ◌∙◌, append_assoc}
use Rattle.std.proofs.lemmas.List.{append-nil}
use Rattle.prepared_lines.specs.Line.{Line, line_text}
use Rattle.prepared_lines.specs.Grows.{Text, GrowsBy}

-- nothing was put
pub grows_none : (line : Line) → GrowsBy line line (λ _. [])
grows_none line = record { fields = refl; grown = λ values many. sym (append-nil (line_text line values)) }

-- one text, and then another
pub grows_then : (a b c : Line) (t u : Text) → GrowsBy a b t → GrowsBy b c u → GrowsBy a c (λ values. t values ++ u values)
grows_then a b c t u g h = record {
  fields = h.fields ∙ g.fields;
  grown = λ values many. h.grown values (many ∙ ap length (sym g.fields)) ∙ (ap (λ l. l ++ u values) (g.grown values many) ∙ append_assoc (line_text a values) (t values) (u values));
}

-- the same text in other words
pub grows_same : (a b : Line) (t u : Text) → GrowsBy a b t → ((values : List (List ℕ)) → length values ≡ length a.fields → t values ≡ u values) → GrowsBy a b u
grows_same a b t u g same = record { fields = g.fields; grown = λ values many. g.grown values many ∙ ap (λ l. line_text a values ++ l) (same values many) }
