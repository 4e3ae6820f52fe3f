-- The valid definitions of one observation domain of a file (RFC 7011, sections 8 and 8.1).
use Rattle.std.specs.Prelude.{ℕ, Option}
use Rattle.wire_spec.specs.Content.{Definition}
use Rattle.template_manager.specs.Table.{definition_in}
use Rattle.file_templates.specs.declared.domain_templates.DomainTemplates.{DomainTemplates}

-- the definition of an ID
abbrev pub definition_of : DomainTemplates → ℕ → Option Definition
definition_of templates id = definition_in templates.manager.ordered id
