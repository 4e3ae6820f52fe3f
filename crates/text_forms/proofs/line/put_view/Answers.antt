use Rattle.std.proofs.Common.{◌++◌, List, map, take, get_or, ap, sym, ◌∙◌}
use Rattle.std.specs.List.{flat_map}
use Rattle.std.proofs.lemmas.List.{take_more}
use Rattle.text_spec.specs.View.{view_line}
use Rattle.run_spec.specs.Records.{Record}
use Rattle.pipeline_message.specs.declared.message.Place.{Place}
use Rattle.pipeline_message.specs.Items.{IsRecordAt, record_at}
use Rattle.pipeline_message.proofs.PlaceLemmas.{first_place}
use Rattle.text_forms.proofs.LineLemmas.{view_more}
use Rattle.text_forms.proofs.line.put_view.Goals as goal

pub loop-place-preserved : goal.loop-place-preserved
loop-place-preserved c =
    let line = c.args.line.now in
    let octets = c.args.octets.now in
    let all = c.args.places.now in
    let i = c.loop-place.place-index in
    let d : Place = record { start = 0; len = 0 } in
    let lt = c.loop-place-test.true in
    record {
      text = λ table fields s.
          (view_more table fields line s octets (take i all) (get_or all i d) c.octets_at.result.now c.args.lines.now c.loop-place.lines c.put_record.new.lines (c.loop-place.invariant.text table fields s) c.octets_at.ensures
          c.in_ok-put_record.ensures.ok
          ∙ ap (λ (l : List Place). c.args.lines.now ++ flat_map (λ (r : Record). view_line table fields r.values) (map (record_at fields octets) l)) (sym (take_more all i d lt)));
      sound = (first_place (IsRecordAt line.fields octets) all i d lt c.loop-place.invariant.sound).1;
    }
