use Rattle.std.proofs.Common.{◌+◌, ◌&&◌, ◌++◌, [], get_or, take}
use Rattle.std.specs.Prelude.{zip, not, if◌then◌else◌}
use Rattle.std.specs.List.{list_any, flat_map}
use Rattle.wire_spec.specs.declared.field.FieldSpec.{FieldSpec}
use Rattle.text_spec.specs.Fields.{pair_of, is_of, is_padding, printed_pairs}
use Rattle.text_spec.specs.Json.{member_by, text_at}
use Rattle.prepared_lines.specs.Grows.{Text}
use Rattle.prepared_lines.proofs.GrowLemmas.{grows_then, grows_same}
use Rattle.json_output.proofs.ElementLemmas.{member_text}
use Rattle.json_output.proofs.member.put_each.Goals as goal

pub loop-at-preserved : goal.loop-at-preserved
loop-at-preserved c =
    let table = c.args.elements.now in
    let fields = c.args.fields.now in
    let at = c.loop-at.at in
    let d : FieldSpec = record { pen = 0; id = 0; len = 0 } in
    let before : Text = λ values. flat_map (member_by (text_at table) table (zip fields values)) (printed_pairs (take at fields)) in
    let here : Text = λ values. if not (is_padding (pair_of (get_or fields at d))) && not (list_any (is_of (pair_of (get_or fields at d))) (take at fields))
    then member_by (text_at table) table (zip fields values) (pair_of (get_or fields at d)) else [] in
    grows_same c.args.draft.now c.put_if_first.new.draft (λ values. before values ++ here values) (λ values. flat_map (member_by (text_at table) table (zip fields values)) (printed_pairs (take (at + 1) fields)))
    (grows_then c.args.draft.now c.loop-at.draft c.put_if_first.new.draft before here c.loop-at.invariant c.in_ok-put_if_first.ensures)
    (λ values many. member_text (member_by (text_at table) table (zip fields values)) fields at d c.loop-at-test.true)
