-- How a line grows while it is prepared.
use Rattle.std.specs.Prelude.{ℕ, ◌≡◌, List, ◌++◌, length}
use Rattle.prepared_lines.specs.Line.{Line, line_text}

-- what is put of a record's values
abbrev pub Text : Type 0
Text = List (List ℕ) → List ℕ

-- the line of each record, which has a value for each field, has a text of its values behind what it had
pub record GrowsBy (old new : Line) (text : Text) : Type 0 where
  pub fields : new.fields ≡ old.fields
  pub grown : (values : List (List ℕ)) → length values ≡ length old.fields → line_text new values ≡ line_text old values ++ text values
