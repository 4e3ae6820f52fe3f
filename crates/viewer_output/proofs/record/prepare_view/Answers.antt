use Rattle.viewer_output.proofs.ViewLemmas.{view_shown}
use Rattle.viewer_output.proofs.record.prepare_view.Goals as goal

pub returns : goal.returns
returns c =
    view_shown c.args.elements.now c.args.def.now.fields c.fields.result.now c.fields-2.result.now _ _ _ _ _ c.fields.ensures.are c.fields-2.ensures.are c.in_ok-draft.ensures
    c.in_ok-put_start.ensures c.in_ok-put_fields.ensures c.in_ok-put_end.ensures c.in_ok-finish.ensures
