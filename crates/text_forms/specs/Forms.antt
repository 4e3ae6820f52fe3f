-- The forms of all sessions.
use Rattle.std.specs.Prelude.{ℕ, ⊤, Option, None, Some}
use Rattle.wire_spec.specs.Content.{Definition}
use Rattle.kept_forms.specs.declared.forms.KeptForms.{KeptForms}
use Rattle.kept_forms.specs.Kept.{kept}
use Rattle.text_forms.specs.Made.{Made}
use Rattle.text_forms.specs.declared.line.Line.{Line}
use Rattle.text_forms.specs.Line.{LineFits}

-- lines that were made for a definition
pub record FormFits (made : Made) (def : Definition) (line : Line) : Type 0 where
  pub fits : LineFits made.kind made.elements def line

abbrev pub FitsIfAny : Made → Option (Definition × Line) → Type 0
FitsIfAny made None = ⊤
FitsIfAny made (Some form) = FormFits made form.0 form.1

-- what is kept for a definition was made for it
abbrev pub AreReady : Made → KeptForms Line → Type 0
AreReady made forms = (session template : ℕ) → FitsIfAny made (kept forms session template)
