use Rattle.viewer_output.proofs.ViewLemmas.{view_put}
use Rattle.viewer_output.proofs.record.put_view_record.Goals as goal

pub returns-clause-ok : goal.returns-clause-ok
returns-clause-ok c =
    view_put c.args.elements.now c.args.def.now.fields _ c.args.rec.now _ _ _ _ _ c.in_ok-line.ensures c.new-lines.ensures c.in_ok-put_record.ensures.ok c.as_slice.ensures c.in_ok-extend.ensures.ok
