use Rattle.std.proofs.Common.{◌≡◌, drop}
use Rattle.config_spec.specs.Faults.{kind_named}
use Rattle.setting_tables.proofs.tables.kind_named.Given as goal

abbrev pub invariant-loop-kind : goal.invariant-loop-kind
invariant-loop-kind l = kind_named l.kinds l.word ≡ kind_named (drop l.kind-index l.kinds) l.word
