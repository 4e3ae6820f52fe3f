use Rattle.std.proofs.Common.{◌≡◌, ℕ, List}
use Rattle.std.specs.Prelude.{fold}
use Rattle.wire_spec.specs.Content.{Touch}
use Rattle.template_spec.specs.Valid.{touched}
use Rattle.ipfix_reader.specs.Left.{kind_left, templates_left}
use Rattle.ipfix_reader.specs.Walk.{HaveTouched}
use Rattle.file_templates.specs.DomainTemplates.{definition_of}
use Rattle.file_templates.proofs.domain_templates.DomainTemplates.take_set.Given as goal

abbrev pub invariant-loop-raw : goal.invariant-loop-raw
invariant-loop-raw l = (touches : List Touch) × HaveTouched l.fn.set (kind_left l.raw-iterator) (templates_left l.raw-iterator) touches
    × ((id : ℕ) → definition_of l.self id ≡ fold (touched id) (definition_of l.fn.self id) touches)
