use Rattle.std.proofs.Common.{◌≡◌, drop}
use Rattle.element_spec.specs.Words.{type_named}
use Rattle.element_table.proofs.keys.type_among.Given as goal

abbrev pub invariant-loop-kind : goal.invariant-loop-kind
invariant-loop-kind l = type_named l.types l.word ≡ type_named (drop l.kind-index l.types) l.word
