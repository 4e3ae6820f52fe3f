-- The summary: a line for each count.
use Rattle.std.specs.Prelude.{ℕ, List, [], ◌∷◌, ◌++◌, codes, decimal, flat_map}
use Rattle.count_spec.specs.Counts.{Counts}

-- the name of a count, and the number
abbrev pub Row : Type 0
Row = List ℕ × ℕ

unfoldable pub sessions_word : List ℕ
sessions_word = codes "sessions "

unfoldable pub messages_word : List ℕ
messages_word = codes "messages "

unfoldable pub records_word : List ℕ
records_word = codes "records "

unfoldable pub malformed_word : List ℕ
malformed_word = codes "malformed "

unfoldable pub late_word : List ℕ
late_word = codes "late "

unfoldable pub skipped_word : List ℕ
skipped_word = codes "skipped "

unfoldable pub ignored_word : List ℕ
ignored_word = codes "ignored "

unfoldable pub redefined_word : List ℕ
redefined_word = codes "redefined "

unfoldable pub lost_word : List ℕ
lost_word = codes "lost "

unfoldable pub disordered_word : List ℕ
disordered_word = codes "disordered "

unfoldable pub torn_word : List ℕ
torn_word = codes "torn "

unfoldable pub broken_word : List ℕ
broken_word = codes "broken "

unfoldable pub refused_word : List ℕ
refused_word = codes "refused "

unfoldable pub crowded_word : List ℕ
crowded_word = codes "crowded "

unfoldable pub stray_word : List ℕ
stray_word = codes "stray "

unfoldable pub opened_word : List ℕ
opened_word = codes "opened "

unfoldable pub released_word : List ℕ
released_word = codes "released "

unfoldable pub row_end : List ℕ
row_end = codes "\n"

-- the name, a space, and the number in decimal digits
abbrev pub count_line : Row → List ℕ
count_line row = (row.0 ++ decimal row.1) ++ row_end

-- snapshots of templates aren't opened yet
abbrev pub count_rows : Counts → List Row
count_rows c = (sessions_word, c.sessions)
    ∷ (messages_word, c.messages)
    ∷ (records_word, c.records)
    ∷ (malformed_word, c.malformed)
    ∷ (late_word, c.late)
    ∷ (skipped_word, c.skipped)
    ∷ (ignored_word, c.ignored)
    ∷ (redefined_word, c.redefined)
    ∷ (lost_word, c.lost)
    ∷ (disordered_word, c.disordered)
    ∷ (torn_word, c.torn)
    ∷ (broken_word, c.broken)
    ∷ (refused_word, c.refused)
    ∷ (crowded_word, c.crowded)
    ∷ (stray_word, c.stray)
    ∷ (opened_word, 0)
    ∷ (released_word, 0)
    ∷ []

abbrev pub summary_text : Counts → List ℕ
summary_text c = flat_map count_line (count_rows c)
