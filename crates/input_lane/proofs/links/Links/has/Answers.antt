use Rattle.std.proofs.Common.{◌≡◌, List, None, subst}
use Rattle.std.specs.Prelude.{find, MatchBool}
use Rattle.input_lane.specs.Links.{Link, HasLink, link_is}
use Rattle.input_lane.proofs.LinkLemmas.{has_entry}
use Rattle.input_lane.proofs.links.Links.has.Goals as goal

pub returns : goal.returns
returns c = subst (λ (l : List Link). MatchBool c.contains_key.result (HasLink c.args.conn l) (find (link_is c.args.conn) l ≡ None)) c.self.view_is
    (has_entry c.args.conn c.self.inside.streams.entries c.contains_key.result c.contains_key.ensures)
