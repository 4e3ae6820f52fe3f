use Rattle.std.proofs.Common.{◌≡◌, ◌∙◌, ap}
use Rattle.element_table.specs.Keyed.{rows_in}
use Rattle.element_table.proofs.KeyedLemmas.{names_same, entries_same}
use Rattle.element_table.proofs.elements.ElementsClone.clone.Goals as goal

same_rows : (c : goal.In_ok-names) → c.in_ok-rows.rows.entries ≡ c.self.inside.rows.entries
same_rows c = entries_same _ _ c.in_ok-rows.ensures.cases

pub invariant_of-result : goal.invariant_of-result
invariant_of-result c = rw (same_rows c) (c.self.invariant.0, λ q. names_same c.self.inside.names c.in_ok-names.names q c.in_ok-names.ensures.cases ∙ c.self.invariant.1 q)

pub returns : goal.returns
returns c = record { cases = ap rows_in (same_rows c) ∙ c.self.view_is }
