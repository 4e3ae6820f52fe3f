-- Counts that are added up, each of which stands at its end.
use Rattle.pipeline_message.specs.declared.run_counts.RunCounts.{RunCounts}
use Rattle.pipeline_message.specs.Shown.{adds}

abbrev pub both_counts : RunCounts → RunCounts → RunCounts
both_counts a b = record {
  sessions = adds a.sessions b.sessions;
  messages = adds a.messages b.messages;
  records = adds a.records b.records;
  malformed = adds a.malformed b.malformed;
  late = adds a.late b.late;
  skipped = adds a.skipped b.skipped;
  ignored = adds a.ignored b.ignored;
  redefined = adds a.redefined b.redefined;
  lost = adds a.lost b.lost;
  disordered = adds a.disordered b.disordered;
  torn = adds a.torn b.torn;
  broken = adds a.broken b.broken;
  refused = adds a.refused b.refused;
  crowded = adds a.crowded b.crowded;
  stray = adds a.stray b.stray;
}
