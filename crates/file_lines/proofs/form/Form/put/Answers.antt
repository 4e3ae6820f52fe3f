use Rattle.file_lines.proofs.TextLemmas.{body_put}
use Rattle.file_lines.proofs.form.Form.put.Goals as goal

pub returns : goal.returns
returns c =
    let ok = rw c.deref.ensures at c.put_records.ensures.ok in
    let none = rw c.deref.ensures at c.put_records.ensures.none in
    body_put c.put_records.result c.args.self.now.definition.value c.args.self.now.prepared c.args.body.now c.args.lines.now c.put_records.new.lines c.args.self.now.suits ok none
