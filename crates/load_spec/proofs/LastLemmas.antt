-- The template that was defined last in a domain.
use Rattle.std.proofs.Common.{◌≡◌, ℕ, ◌*◌, Bool, true, List, [], ◌∷◌, ap, ◌∙◌, arith}
use Rattle.std.specs.Prelude.{◌/◌, ◌%◌, ◌==◌, if◌then◌else◌}
use Rattle.std.proofs.lemmas.Bool.{eq-eqb, ne_eqb}
use Rattle.wire_spec.specs.declared.field.FieldSpec.{FieldSpec}
use Rattle.wire_spec.specs.Content.{Part}
use Rattle.wire_spec.specs.Content.Part.{Touches}
use Rattle.wire_spec.specs.Content.Touch.{Define}
use Rattle.load_spec.specs.Load.{defined_as, fields_a, fields_at, fields_b}
use Rattle.load_spec.specs.Said.{WasDefinedLast}

-- a template is there or not, and has A or not
abbrev part_if : Bool → List FieldSpec → List Part
part_if due fields = if due then Touches (Define 256 (defined_as fields) ∷ []) ∷ [] else []

abbrev fields_of : ℕ → List FieldSpec
fields_of k = if k % 2 == 0 then fields_a else fields_b

pub last_defined : (q : ℕ) → WasDefinedLast (250 * (q / 250)) q
last_defined q =
    let p = 250 * (q / 250) in
    let due : p % 250 ≡ 0 = omega arith in
    let same : p / 250 ≡ q / 250 = omega arith in
    record {
      before = omega arith;
      defines = ap (λ b. part_if b (fields_at p)) (eq-eqb (p % 250) 0 due) ∙ ap (λ k. part_if true (fields_of k)) same;
      none_between = λ r behind upto. ap (λ b. part_if b (fields_at r)) (ne_eqb (r % 250) 0 (λ z. omega arith));
    }
