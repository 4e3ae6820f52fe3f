-- The values that most records are made of.
use Rattle.std.specs.Prelude.{ℕ, ◌≡◌, Some, List, length, decimal}
use Rattle.std.specs.List.{join_by}
use Rattle.text_spec.specs.declared.element.ElementType.{ElementType}
use Rattle.text_spec.specs.Number.{number_of}
use Rattle.text_spec.specs.Marks.{dot}
use Rattle.text_spec.specs.Value.{quoted, value_text}
use Rattle.prepared_lines.specs.declared.shape.Shape.{Shape}
use Rattle.prepared_lines.specs.declared.shape.Shape.TheVariants.{Address, Number1, Number2, Number4, Number8}

-- the octets of a value of a shape
abbrev pub width : Shape → ℕ
width Address = 4
width Number1 = 1
width Number2 = 2
width Number4 = 4
width Number8 = 8

-- its text
abbrev pub shape_text : Shape → List ℕ → List ℕ
shape_text Address value = quoted (join_by decimal dot value)
shape_text Number1 value = decimal (number_of value)
shape_text Number2 value = decimal (number_of value)
shape_text Number4 value = decimal (number_of value)
shape_text Number8 value = decimal (number_of value)

-- values of a type and of so many octets have the text of a shape
pub record HasShape (kind : ElementType) (len : ℕ) (shape : Shape) : Type 0 where
  pub wide : width shape ≡ len
  pub text : (value : List ℕ) → length value ≡ len → value_text (Some kind) value ≡ shape_text shape value
