use Rattle.std.proofs.Common.{◌∙◌, ap, map, ◌++◌, ◌∷◌, [], nat_eq}
use Rattle.std.specs.Prelude.{find}
use Rattle.indexmap.proofs.CallerLemmas.{insert_entry-new}
use Rattle.input_lane.specs.Links.{link_is, link_row, stream_link}
use Rattle.input_lane.proofs.LinkLemmas.{no_entry, entry_joins}
use Rattle.input_lane.proofs.links.Links.open.Goals as goal

pub returns : goal.returns
returns c =
    ap (map link_row) (c.in_ok-insert.ensures.entries
    ∙ insert_entry-new nat_eq c.self.inside.streams c.args.conn c.args.stream
    (no_entry c.args.conn c.self.inside.streams.entries (ap (find (link_is c.args.conn)) c.self.view_is ∙ c.requires)))
    ∙ (entry_joins c.self.inside.streams.entries c.args.conn c.args.stream ∙ ap (λ rows. rows ++ stream_link c.args.conn c.args.stream ∷ []) c.self.view_is)
