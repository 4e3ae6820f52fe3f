-- A front of the fields has a front of their specifiers.
use Rattle.std.proofs.Common.{◌≡◌, ℕ, List, ◌++◌, take, drop, ap, sym, ◌∙◌}
use Rattle.std.proofs.lemmas.List.{take-append-drop}
use Rattle.std.proofs.lemmas.List.Concat.{flat_map-append}
use Rattle.wire_spec.specs.declared.field.FieldSpec.{FieldSpec}
use Rattle.wire_spec.specs.Specifiers.{specifier, specifiers}
use Rattle.template_def.specs.Kept.{AppendsFront}

pub front_put : (fields : List FieldSpec) (n : ℕ) (old new : List ℕ) → new ≡ old ++ specifiers (take n fields) → AppendsFront old new (specifiers fields)
front_put fields n old new e = record {
  written = specifiers (take n fields);
  left = specifiers (drop n fields);
  parts = sym (ap specifiers (take-append-drop n fields)) ∙ flat_map-append specifier (take n fields) (drop n fields);
  appended = e;
}
