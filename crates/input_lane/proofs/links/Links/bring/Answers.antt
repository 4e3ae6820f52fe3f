use Rattle.std.proofs.Common.{◌∙◌, List, map, sym, ap, subst, refl}
use Rattle.std.specs.Prelude.{find}
use Rattle.input_lane.specs.Brings.{Brings}
use Rattle.input_lane.specs.Links.{Link, AreApart, link_is, link_row}
use Rattle.input_lane.proofs.LinkLemmas.{absent_entry, links_apart, rows_bring}
use Rattle.input_lane.proofs.links.Links.bring.Goals as goal

pub returns-in_err-brought-in-Some-clause-apart : goal.returns-in_err-brought-in-Some-clause-apart
returns-in_err-brought-in-Some-clause-apart c = subst AreApart c.self.view_is (links_apart c.self.inside.streams.entries c.self.invariant)

pub returns-in-None-clause-apart : goal.returns-in-None-clause-apart
returns-in-None-clause-apart c = subst AreApart c.self.view_is (links_apart c.self.inside.streams.entries c.self.invariant)

pub returns-in_ok-brought-in-Some-clause-apart : goal.returns-in_ok-brought-in-Some-clause-apart
returns-in_ok-brought-in-Some-clause-apart c = subst AreApart c.self.view_is (links_apart c.self.inside.streams.entries c.self.invariant)

pub returns-in-None-clause-brings : goal.returns-in-None-clause-brings
returns-in-None-clause-brings c = (
  ap (find (link_is c.args.conn)) (sym c.self.view_is) ∙ absent_entry c.args.conn c.self.inside.streams.entries (sym c.get_index_of.ensures.index ∙ c.in-None.is),
  refl,
  refl,
)

pub returns-in_ok-brought-in-Some-clause-brings : goal.returns-in_ok-brought-in-Some-clause-brings
returns-in_ok-brought-in-Some-clause-brings c =
    subst (λ (l : List Link). Brings c.args.input c.args.conn c.args.octets.now l (map link_row c.bring_at.new.streams.entries) c.args.hand.now.items c.bring_at.new.hand.items c.in_ok-brought-in-Some.brought) c.self.view_is
    (rows_bring c.args.input c.args.conn c.args.octets.now c.self.inside.streams.entries c.bring_at.new.streams.entries c.in-Some.i c.args.hand.now.items c.bring_at.new.hand.items c.in_ok-brought-in-Some.brought
    c.self.invariant (sym c.get_index_of.ensures.index ∙ c.in-Some.is) c.in_ok-brought-in-Some.ensures.brings)
