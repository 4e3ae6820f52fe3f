use Rattle.std.proofs.Common.{◌++◌, ◌∙◌, get_or, ap, take}
use Rattle.std.specs.List.{flat_map}
use Rattle.std.specs.Net.Text.{hex}
use Rattle.value_text.specs.Groups.{later_group}
use Rattle.value_text.proofs.ListLemmas.{first_group}
use Rattle.value_text.proofs.groups.place_groups.Goals as goal

pub returns-clause-grown : goal.returns-clause-grown
returns-clause-grown c =
    c.place_first.ensures.grown
    ∙ ap (λ l. take c.args.at c.args.text.now ++ (hex (get_or c.args.groups.now 0 0) ++ flat_map later_group l)) c.later.ensures
    ∙ ap (λ l. take c.args.at c.args.text.now ++ l) (first_group c.args.groups.now c.if-is_empty.ensures)
