-- The text of the sets of a message, by what an output prints.
use Rattle.std.specs.Prelude.{ℕ, List, Option, Some, None, map}
use Rattle.wire_spec.specs.Content.{Definition}
use Rattle.config_spec.specs.declared.conf.OutputKind.{OutputKind}
use Rattle.config_spec.specs.declared.conf.OutputKind.TheVariants as O
use Rattle.text_spec.specs.declared.element.Element.{Element}
use Rattle.run_spec.specs.Outcome.{DecodedSet}
use Rattle.run_spec.specs.Result.{set_text as lines_of_set}
use Rattle.run_spec.specs.View.{set_view}
use Rattle.pipeline_message.specs.declared.message.Place.{Place}
use Rattle.pipeline_message.specs.Items.{record_at}
use Rattle.text_forms.specs.declared.kind.TextKind.{TextKind}
use Rattle.text_forms.specs.declared.kind.TextKind.TheVariants.{Json, View}

-- what an output prints, if it writes text
abbrev pub text_kind : OutputKind → Option TextKind
text_kind (O.Json options) = Some (Json options)
text_kind (O.Ipfix last) = None
text_kind O.View = Some View

abbrev pub set_text : TextKind → List Element → DecodedSet → List ℕ
set_text (Json options) table d = lines_of_set options table d
set_text View table d = set_view table d

-- the set of the records at these places
abbrev pub set_in : Definition → ℕ → List ℕ → List Place → DecodedSet
set_in def template octets places = record { id = template; definition = def; records = map (record_at def.fields octets) places }
