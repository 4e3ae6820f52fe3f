use Rattle.std.proofs.Common.{◌≡◌, ◌++◌, ℕ, length}
use Rattle.std.specs.List.{AllByRecursion}
use Rattle.wire_spec.specs.Message.{specifiers_size}
use Rattle.wire_spec.specs.Content.{fields_of}
use Rattle.wire_spec.specs.Specifiers.{IsField}
use Rattle.template_def.proofs.fields.read_fields.Given as goal

abbrev pub invariant-loop-field : goal.invariant-loop-field
invariant-loop-field l = record {
  left : (count : ℕ) → specifiers_size count l.fn.specs ≡ length l.fn.specs → (n : ℕ) × (specifiers_size n l.rest ≡ length l.rest) × (fields_of count l.fn.specs ≡ l.fields.items ++ fields_of n l.rest);
  kept : AllByRecursion IsField l.fields.items;
}

abbrev pub decreases-loop-field : goal.decreases-loop-field
decreases-loop-field l = length l.rest
