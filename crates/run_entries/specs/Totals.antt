-- The counts of all inputs, added up.
use Rattle.std.specs.Prelude.{List, [], ◌∷◌}
use Rattle.pipeline_message.specs.declared.run_counts.RunCounts.{RunCounts}
use Rattle.run_input.specs.Sums.{both_counts}

-- nothing was counted
abbrev pub nothing_counted : RunCounts
nothing_counted = record {
  sessions = 0;
  messages = 0;
  records = 0;
  malformed = 0;
  late = 0;
  skipped = 0;
  ignored = 0;
  redefined = 0;
  lost = 0;
  disordered = 0;
  torn = 0;
  broken = 0;
  refused = 0;
  crowded = 0;
  stray = 0;
}

abbrev pub sums : List RunCounts → RunCounts
sums [] = nothing_counted
sums (c ∷ counts) = both_counts c (sums counts)
