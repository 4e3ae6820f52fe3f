use Rattle.std.proofs.Common.{◌≡◌, ◌∙◌, ap, map, not, filter, List, None, Some, subst}
use Rattle.std.specs.Prelude.{find, MatchOption}
use Rattle.input_lane.specs.Links.{Link, AreApart, link_row, link_is, stream_link}
use Rattle.input_lane.proofs.LinkLemmas.{found_entry, entry_goes, links_apart}
use Rattle.input_lane.proofs.links.Links.close.Goals as goal

pub returns-clause-found : goal.returns-clause-found
returns-clause-found c = subst (λ (l : List Link). MatchOption c.shift_remove.result (find (link_is c.args.conn) l ≡ None) (λ s. find (link_is c.args.conn) l ≡ Some (stream_link c.args.conn s))) c.self.view_is
    (found_entry c.args.conn c.self.inside.streams.entries c.shift_remove.result c.shift_remove.ensures.value)

pub returns-clause-others : goal.returns-clause-others
returns-clause-others c = ap (map link_row) c.shift_remove.ensures.entries
    ∙ (entry_goes c.args.conn c.self.inside.streams.entries c.self.invariant ∙ ap (filter (λ x. not (link_is c.args.conn x))) c.self.view_is)

pub returns-clause-apart : goal.returns-clause-apart
returns-clause-apart c = subst AreApart c.self.view_is (links_apart c.self.inside.streams.entries c.self.invariant)
