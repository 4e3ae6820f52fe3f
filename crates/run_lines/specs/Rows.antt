-- The rows of a summary.
use Rattle.std.specs.Prelude.{ℕ, List, map}
use Rattle.count_spec.specs.Counts.{Counts}
use Rattle.pipeline_message.specs.declared.run_counts.RunCounts.{RunCounts}
use Rattle.call_spec.specs.Summary.{Row, sessions_word, messages_word, records_word, malformed_word, late_word, skipped_word, ignored_word, redefined_word, lost_word, disordered_word, torn_word, broken_word, refused_word, crowded_word, stray_word, opened_word, released_word}
use Rattle.run_lines.specs.declared.count_row.CountName.{CountName}
use Rattle.run_lines.specs.declared.count_row.CountName.TheVariants as name
use Rattle.run_lines.specs.declared.count_row.CountRow.{CountRow}

-- the counts of a run as the definitions have them
abbrev pub meant_counts : RunCounts → Counts
meant_counts c = record {
  sessions = c.sessions;
  messages = c.messages;
  records = c.records;
  malformed = c.malformed;
  late = c.late;
  skipped = c.skipped;
  ignored = c.ignored;
  redefined = c.redefined;
  lost = c.lost;
  disordered = c.disordered;
  torn = c.torn;
  broken = c.broken;
  refused = c.refused;
  crowded = c.crowded;
  stray = c.stray;
}

-- the word of a count, with the space behind it
abbrev pub name_text : CountName → List ℕ
name_text name.Sessions = sessions_word
name_text name.Messages = messages_word
name_text name.Records = records_word
name_text name.Malformed = malformed_word
name_text name.Late = late_word
name_text name.Skipped = skipped_word
name_text name.Ignored = ignored_word
name_text name.Redefined = redefined_word
name_text name.Lost = lost_word
name_text name.Disordered = disordered_word
name_text name.Torn = torn_word
name_text name.Broken = broken_word
name_text name.Refused = refused_word
name_text name.Crowded = crowded_word
name_text name.Stray = stray_word
name_text name.Opened = opened_word
name_text name.Released = released_word

abbrev pub row_of : CountRow → Row
row_of row = (name_text row.name, row.number)
