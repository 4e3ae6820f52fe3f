use Rattle.std.proofs.Common.{◌≡◌, length, rules}
use Rattle.text_forms.proofs.ListedLemmas.{set_listed}
use Rattle.text_forms.proofs.line.Line.put.Goals as goal

pub returns-in_ok-put_view-in-View-clause-text : goal.returns-in_ok-put_view-in-View-clause-text
returns-in_ok-put_view-in-View-clause-text c = λ kind table fits.
    (let many : c.in-Ok.count ≡ length c.args.places.now = search rules in
    set_listed kind table c.args.def.now c.args.template c.in-Ok.count c.args.octets.now c.args.places.now c.args.self.now c.in-View.line c.args.lines.now c.put_set_line.new.lines c.put_view.new.lines c.in-View.is fits many
    c.in_ok-put_set_line-in-View.ensures c.in_ok-put_view-in-View.ensures)
