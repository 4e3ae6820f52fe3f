use Rattle.std.proofs.Common.{◌≡◌, ◌++◌, List}
use Rattle.std.specs.Prelude.{flat_map}
use Rattle.wire_spec.specs.Content.{Touch}
use Rattle.ipfix_reader.specs.Left.{kind_left, templates_left}
use Rattle.ipfix_reader.specs.Walk.{HaveTouched}
use Rattle.decoding_tests.specs.DefinedIds.{id_of}
use Rattle.decoding_tests.proofs.messages.push_ids.Given as goal

abbrev pub invariant-loop-template : goal.invariant-loop-template
invariant-loop-template l = (touches : List Touch) × HaveTouched l.fn.set (kind_left l.template-iterator) (templates_left l.template-iterator) touches × (l.ids.items ≡ l.fn.ids.items ++ flat_map id_of touches)
