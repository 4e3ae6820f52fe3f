use Rattle.std.proofs.Common.{◌≡◌, ℕ, ◌+◌, ◌<◌, ◌≤◌, None, length, get_or}
use Rattle.std.specs.Map.{lookup}
use Rattle.wire_spec.specs.declared.field.FieldSpec.{FieldSpec}
use Rattle.text_spec.specs.Fields.{Pair, pair_of}
use Rattle.json_output.specs.Chain.{first_from, is_key}
use Rattle.json_output.proofs.chains.Chains.new.Given as goal

abbrev pub invariant-loop-at : goal.invariant-loop-at
invariant-loop-at l =
    record {
      long : length l.next.items ≡ length l.fields;
      first : (pair : Pair) → lookup (is_key pair) l.first.entries ≡ first_from pair l.fields l.at;
      next : (at : ℕ) (d : FieldSpec) → l.at ≤ at → at < length l.fields → get_or l.next.items at None ≡ first_from (pair_of (get_or l.fields at d)) l.fields (at + 1);
    }
