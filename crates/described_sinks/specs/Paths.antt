-- Where outputs write.
use Rattle.std.specs.Prelude.{ℕ, List, map}
use Rattle.config_spec.specs.declared.conf.OutputConf.{OutputConf}
use Rattle.call_spec.specs.Leaves.{at_of}
use Rattle.call_spec.specs.Plan.{output_party}

abbrev pub paths : List OutputConf → List (List ℕ)
paths outputs = at_of (map output_party outputs)
