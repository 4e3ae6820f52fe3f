use Rattle.std.proofs.Common.{◌≡◌, ◌≤◌, ◌+◌, ◌++◌, length, reverse, vec_capacity, vec_len}
use Rattle.run_inputs.specs.Made.{AreMade, sources_of}
use Rattle.run_inputs.proofs.make.make_all.Given as goal

abbrev pub invariant-loop-source : goal.invariant-loop-source
invariant-loop-source g l = record {
  front : reverse l.fn.sources.items ≡ sources_of l.inputs.items ++ reverse l.sources.items;
  made : AreMade g.S.Source.left g.S.Source.faults l.conf (sources_of l.inputs.items) l.inputs.items;
  long : vec_len l.inputs + vec_len l.sources ≡ length l.conf.inputs;
  room : length l.conf.inputs ≤ vec_capacity l.inputs;
  back : length l.conf.inputs ≤ vec_capacity l.sources;
}

abbrev pub decreases-loop-source : goal.decreases-loop-source
decreases-loop-source g l = vec_len l.sources
