-- For which definition, by which elements, lines are prepared.
use Rattle.std.specs.Prelude.{List}
use Rattle.wire_spec.specs.Content.{Definition}
use Rattle.text_spec.specs.declared.element.Element.{Element}
use Rattle.json_output.specs.Suits.{Suits}
use Rattle.viewer_output.specs.View.{Shows}
use Rattle.text_forms.specs.declared.kind.TextKind.{TextKind}
use Rattle.text_forms.specs.declared.kind.TextKind.TheVariants as K
use Rattle.text_forms.specs.declared.line.Line.{Line}
use Rattle.text_forms.specs.declared.line.Line.TheVariants.{Json, View}

abbrev pub LineFits : TextKind → List Element → Definition → Line → Type 0
LineFits (K.Json options) table def (Json prepared) = Suits options table def prepared
LineFits (K.Json options) table def (View line) = ⊥
LineFits K.View table def (Json prepared) = ⊥
LineFits K.View table def (View line) = Shows table def.fields line
