use Rattle.std.proofs.Common.{◌∙◌, ap}
use Rattle.std.specs.Prelude.{option_map}
use Rattle.element_table.proofs.KeyedLemmas.{find_keyed, printed_keyed, seen_through}
use Rattle.element_table.proofs.elements.Elements.row.Goals as goal

pub returns-clause-element : goal.returns-clause-element
returns-clause-element c = rw (← c.self.view_is)
    (seen_through (λ row. row.element) c.get.result ∙ ap (option_map (λ row. row.element)) c.get.ensures.value ∙ find_keyed _ _ _ c.self.invariant.0)

pub returns-clause-printed : goal.returns-clause-printed
returns-clause-printed c = rw (← c.self.view_is)
    (seen_through (λ row. row.printed) c.get.result ∙ ap (option_map (λ row. row.printed)) c.get.ensures.value ∙ printed_keyed _ _ _ c.self.invariant.0)
