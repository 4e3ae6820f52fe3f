-- What callers see of a walk: what is left of it.
use Rattle.std.specs.Prelude.{ℕ, List, drop}
use Rattle.col_base.specs.declared.base.Kind.{Kind}
use Rattle.ipfix_reader.specs.declared.set_walk.Sets.{Sets}
use Rattle.ipfix_reader.specs.declared.template_walk.TemplateRecords.{TemplateRecords}

-- the message that a walk goes over
abbrev pub message_walked : Sets → List ℕ
message_walked sets = sets.message.now

-- the octet of the message at which the sets begin that are left
abbrev pub place_of : Sets → ℕ
place_of sets = sets.at

-- these sets
abbrev pub sets_left : Sets → List ℕ
sets_left sets = drop sets.at sets.message.now

-- the template records that are left, with the padding
abbrev pub templates_left : TemplateRecords → List ℕ
templates_left templates = templates.rest.now

-- their kind
abbrev pub kind_left : TemplateRecords → Kind
kind_left templates = templates.kind
