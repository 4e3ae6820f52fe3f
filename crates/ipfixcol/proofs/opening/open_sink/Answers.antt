use Rattle.std.proofs.Common.{rules}
use Rattle.ipfixcol.specs.UsedFiles.{AddsSink}
use Rattle.ipfixcol.proofs.opening.open_sink.Goals as goal

pub returns-clause-ok : goal.returns-clause-ok
returns-clause-ok g c = record {
  name = c.in_ok-name.name;
  identity = c.in_ok-file.identity;
  called = search rules;
  texts = search rules;
  sources = search rules;
  sinks = search rules;
  apart = search rules;
}
