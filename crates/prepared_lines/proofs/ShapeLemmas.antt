-- The texts of values of a type and of so many octets.
use Rattle.std.proofs.Common.{◌≡◌, ℕ, refl, sym, subst}
use Rattle.text_spec.specs.Value.{value_text}
use Rattle.text_spec.specs.declared.element.ElementType.{ElementType}
use Rattle.text_spec.specs.declared.element.ElementType.TheVariants as T
use Rattle.prepared_lines.specs.declared.shape.Shape.{Shape}
use Rattle.prepared_lines.specs.declared.shape.Shape.TheVariants.{Address, Number1, Number2, Number4, Number8}
use Rattle.prepared_lines.specs.Shape.{HasShape}

pub shaped : (kind k : ElementType) (len n : ℕ) (shape : Shape) → kind ≡ k → len ≡ n → HasShape k n shape → HasShape kind len shape
shaped kind k len n shape is long has = subst (λ (j : ElementType). HasShape j len shape) (sym is) (subst (λ m. HasShape k m shape) (sym long) has)

pub Ipv4Address_4 : HasShape T.Ipv4Address 4 Address
unfolding value_text
Ipv4Address_4 = record { wide = refl; text = λ value e. rw e refl }

pub Unsigned8_1 : HasShape T.Unsigned8 1 Number1
unfolding value_text
Unsigned8_1 = record { wide = refl; text = λ value e. rw e refl }

pub Unsigned16_1 : HasShape T.Unsigned16 1 Number1
unfolding value_text
Unsigned16_1 = record { wide = refl; text = λ value e. rw e refl }

pub Unsigned16_2 : HasShape T.Unsigned16 2 Number2
unfolding value_text
Unsigned16_2 = record { wide = refl; text = λ value e. rw e refl }

pub Unsigned32_4 : HasShape T.Unsigned32 4 Number4
unfolding value_text
Unsigned32_4 = record { wide = refl; text = λ value e. rw e refl }

pub Unsigned64_4 : HasShape T.Unsigned64 4 Number4
unfolding value_text
Unsigned64_4 = record { wide = refl; text = λ value e. rw e refl }

pub Unsigned64_8 : HasShape T.Unsigned64 8 Number8
unfolding value_text
Unsigned64_8 = record { wide = refl; text = λ value e. rw e refl }

pub DateTimeMilliseconds_8 : HasShape T.DateTimeMilliseconds 8 Number8
unfolding value_text
DateTimeMilliseconds_8 = record { wide = refl; text = λ value e. rw e refl }

pub Unsigned32_1 : HasShape T.Unsigned32 1 Number1
unfolding value_text
Unsigned32_1 = record { wide = refl; text = λ value e. rw e refl }

pub Unsigned32_2 : HasShape T.Unsigned32 2 Number2
unfolding value_text
Unsigned32_2 = record { wide = refl; text = λ value e. rw e refl }

pub Unsigned64_1 : HasShape T.Unsigned64 1 Number1
unfolding value_text
Unsigned64_1 = record { wide = refl; text = λ value e. rw e refl }

pub Unsigned64_2 : HasShape T.Unsigned64 2 Number2
unfolding value_text
Unsigned64_2 = record { wide = refl; text = λ value e. rw e refl }
