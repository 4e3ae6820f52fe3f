-- Texts.
use Rattle.std.proofs.Common.{◌≡◌, ℕ, Bool, List, ◌++◌, refl, ap, sym, ◌∙◌}
use Rattle.std.proofs.lemmas.Grind.{flat_map-append}
use Rattle.arrival_spec.specs.declared.event.Scripted.{Scripted}
use Rattle.arrival_spec.specs.Settings.{Settings}
use Rattle.arrival_spec.specs.Run.{arrivals_of}
use Rattle.text_spec.specs.declared.element.Element.{Element}
use Rattle.run_spec.specs.Judge.{Inputs}
use Rattle.run_spec.specs.Work.{Item}
use Rattle.run_spec.specs.Result.{IsText, item_text, json_text}
use Rattle.run_spec.specs.View.{item_view, view_text}
use Rattle.run_spec.proofs.ReadLemmas.{some_items, one_list_of_items}

abbrev alone : Settings → Inputs
alone settings input = settings

pub some_text : (settings : Settings) (options : Bool) (table : List Element) (given : List Scripted) → (text : List ℕ) × IsText settings options table given text
some_text settings options table given = let i = some_items (alone settings) (arrivals_of settings 0 given) in (json_text options table i.0, (i.0, i.1, refl))

pub one_text : (settings : Settings) (options : Bool) (table : List Element) (given : List Scripted) (text other : List ℕ) → IsText settings options table given text → IsText settings options table given other → text ≡ other
one_text settings options table given text other p q = p.2 ∙ (ap (json_text options table) (one_list_of_items (alone settings) (arrivals_of settings 0 given) p.0 q.0 p.1 q.1) ∙ sym q.2)

pub lines_append : (options : Bool) (table : List Element) (items more : List Item) → json_text options table (items ++ more) ≡ json_text options table items ++ json_text options table more
lines_append options table items more = flat_map-append (item_text options table) items more

pub views_append : (table : List Element) (items more : List Item) → view_text table (items ++ more) ≡ view_text table items ++ view_text table more
views_append table items more = flat_map-append (item_view table) items more
