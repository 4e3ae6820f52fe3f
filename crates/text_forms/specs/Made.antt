-- What forms are made of, as contracts see it.
use Rattle.std.specs.Prelude.{List}
use Rattle.text_spec.specs.declared.element.Element.{Element}
use Rattle.text_forms.specs.declared.kind.TextKind.{TextKind}
use Rattle.text_forms.specs.declared.maker.Maker.{Maker}

-- what is printed, by which elements
pub record Made : Type 0 where
  pub kind : TextKind
  pub elements : List Element

abbrev pub made_of : Maker → Made
made_of maker = record { kind = maker.kind; elements = maker.elements.value }
