use Rattle.std.proofs.Common.{◌≡◌}
use Rattle.toml.specs.View.{members_view}
use Rattle.std.specs.List.Sorted.{IsStrictlySortedBy}
use Rattle.std.specs.Map.{keys_of}
use Rattle.std.specs.String.{string_cmp}
use Rattle.config_spec.specs.Faults.{unknown_fault}
use Rattle.setting_tables.proofs.walk.keys_are_known.Given as goal

abbrev pub invariant-loop-word : goal.invariant-loop-word
invariant-loop-word l =
    (goal.iterator-loop-word).can_next l.word-iterator ×
    (goal.iterator-loop-word).is_finite l.word-iterator ×
    IsStrictlySortedBy string_cmp (keys_of l.word-iterator) ×
    (unknown_fault l.path l.rows (members_view l.table.entries) ≡ unknown_fault l.path l.rows (members_view l.word-iterator))
