use Rattle.std.proofs.Common.{◌∙◌, sym, ap, map, ◌++◌, ◌∷◌}
use Rattle.arrival_spec.specs.Sessions.{key_of}
use Rattle.session_table.specs.Table.{open_keys}
use Rattle.session_table.proofs.sessions.Sessions.close_next.Goals as goal

pub returns-in-Some : goal.returns-in-Some
returns-in-Some c =
    let first = c.in-Some.ensures in
    let input = c.self.inside.input in (
      ap open_keys (sym c.self.view_is)
          ∙ ((λ j. map (λ x. key_of input x.session) (first.1 j) ++ map (λ x. key_of input x.session) c.self.inside.peers)
          ∙ (λ j. sym (c.key.ensures ∙ ap (key_of input) first.2) j ∷ (map (λ x. key_of input x.session) c.close_first.new.self ++ map (λ x. key_of input x.session) c.self.inside.peers))),
      λ j. record { input = (c.self.view_is j).input; idle = (c.self.view_is j).idle; opened = (c.self.view_is j).opened; conns = c.close_first.new.self; peers = c.self.inside.peers },
    )
