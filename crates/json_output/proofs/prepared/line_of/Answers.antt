use Rattle.std.proofs.Common.{sym, subst}
use Rattle.col_base.specs.declared.base.Kind.{Kind}
use Rattle.text_spec.specs.Json.{line_start}
use Rattle.prepared_lines.specs.Line.{Line}
use Rattle.prepared_lines.specs.Grows.{GrowsBy}
use Rattle.json_output.specs.Printed.{IsJson}
use Rattle.json_output.proofs.ElementLemmas.{json_is}
use Rattle.json_output.proofs.prepared.line_of.Goals as goal

pub returns : goal.returns
returns c =
    let empty = c.in_ok-draft.draft in
    let a = c.put_start.new.draft in
    let start = subst (λ (k : Kind). GrowsBy empty a (λ _. line_start k)) c.kind.ensures c.in_ok-put_start.ensures in
    subst (λ (l : Line). IsJson c.args.elements.now c.args.def.now l) (sym c.in_ok-line.ensures)
    (json_is c.args.elements.now c.args.def.now c.fields-fields.result.now empty a c.put_members.new.draft c.put_end.new.draft c.fields-fields.ensures.are c.in_ok-draft.ensures
    start c.in_ok-put_members.ensures c.in_ok-put_end.ensures)
