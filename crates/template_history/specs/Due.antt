-- When versions are due to be forgotten.
use Rattle.std.specs.Prelude.{ℕ, Bool}
use Rattle.std.specs.declared.cmp.Ordering.{Ordering}
use Rattle.std.specs.BTreeSet.{contains, btree_set_len}
use Rattle.std.specs.Ordering.{nat_cmp, ordering_then}
use Rattle.template_history.specs.declared.due.Due.{Due}

abbrev pub pair_cmp : ℕ × ℕ → ℕ × ℕ → Ordering
pair_cmp x y = ordering_then (nat_cmp x.0 y.0) (nat_cmp x.1 y.1)

-- an ID has a version to forget from an export time on
abbrev pub is_due : Due → ℕ → ℕ → Bool
is_due due t id = contains pair_cmp due.pairs (t, id)

abbrev pub due_count : Due → ℕ
due_count due = btree_set_len due.pairs
