use Rattle.std.proofs.Common.{◌≡◌}
use Rattle.toml.specs.View.{members_view}
use Rattle.element_spec.specs.Rows.{are_known}
use Rattle.element_table.proofs.keys.are_known.Given as goal

abbrev pub invariant-loop-word : goal.invariant-loop-word
invariant-loop-word l =
    (goal.iterator-loop-word).can_next l.word-iterator ×
    (goal.iterator-loop-word).is_finite l.word-iterator ×
    (are_known l.keys (members_view l.table.entries) ≡ are_known l.keys (members_view l.word-iterator))
