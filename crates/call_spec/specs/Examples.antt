-- Example runs.
use Rattle.std.specs.Prelude.{ℕ, Bool, List, [], ◌∷◌, Option, Some, codes}
use Rattle.site_io.specs.declared.outside.OutsideFault.{OutsideFault}
use Rattle.count_spec.specs.Counts.{Counts}
use Rattle.count_spec.specs.Examples.{nothing_counted}
use Rattle.call_spec.specs.declared.end.InputEnd.{InputEnd}
use Rattle.call_spec.specs.declared.end.OutputFault.{OutputFault}
use Rattle.call_spec.specs.Came.{Parties, InputCame, RunCame}
use Rattle.call_spec.specs.Plan.{one_party}

-- inputs `a` and `b`, a log, an intermediate `f`, and outputs `o` and `p`
abbrev pub two_parties : Parties
two_parties = record {
  inputs = one_party (codes "a") (codes "a.ipfix") ∷ one_party (codes "b") (codes "b.ipfix") ∷ [];
  log = Some (codes "log");
  stages = codes "f" ∷ [];
  outputs = one_party (codes "o") (codes "o.json") ∷ one_party (codes "p") (codes "p.ipfix") ∷ [];
}

-- an input that ended so
abbrev pub came_to : InputEnd → Bool → InputCame
came_to end failed = record { given = []; end = end; failed = failed }

-- a run in which these came to the inputs, the log, the intermediates and the outputs
abbrev pub run_with : List InputCame → Option OutsideFault → List Bool → List (Option OutputFault) → RunCame
run_with inputs log stages outputs = record { inputs = inputs; order = []; log = log; stages = stages; outputs = outputs; counts = nothing_counted }

-- counts no two of which are the same
abbrev pub one_to_fifteen : Counts
one_to_fifteen = record nothing_counted {
  sessions = 1;
  messages = 2;
  records = 3;
  malformed = 4;
  late = 5;
  skipped = 6;
  ignored = 7;
  redefined = 8;
  lost = 9;
  disordered = 10;
  torn = 11;
  broken = 12;
  refused = 13;
  crowded = 14;
  stray = 15;
}
