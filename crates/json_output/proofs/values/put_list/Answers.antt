use Rattle.std.proofs.Common.{◌+◌, ◌++◌, [], get_or, drop, ap, append_assoc}
use Rattle.std.specs.Prelude.{zip}
use Rattle.std.specs.List.{flat_map}
use Rattle.text_spec.specs.Fields.{pair_of, values_at}
use Rattle.text_spec.specs.Marks.{comma, list_start, list_end}
use Rattle.text_spec.specs.Value.{value_text}
use Rattle.prepared_lines.specs.Grows.{Text}
use Rattle.prepared_lines.proofs.GrowLemmas.{grows_then, grows_same}
use Rattle.json_output.proofs.values.put_list.Goals as goal

pub returns : goal.returns
returns c =
    let value : Text = λ values. value_text c.args.kind (get_or values c.args.at []) in
    let others : Text = λ values. flat_map (λ v. comma ++ value_text c.args.kind v) (values_at (pair_of c.args.field) (zip (drop (c.args.at + 1) c.args.fields.now) (drop (c.args.at + 1) values))) in
    let a = c.args.draft.now in
    let two = grows_then a c.put_list_start.new.draft c.put_value.new.self (λ _. list_start) value c.in_ok-put_list_start.ensures c.in_ok-put_value.ensures.ok in
    let three = grows_then a c.put_value.new.self c.put_others.new.draft (λ values. list_start ++ value values) others two c.in_ok-put_others.ensures in
    let all = grows_then a c.put_others.new.draft c.put_list_end.new.draft (λ values. list_start ++ value values ++ others values) (λ _. list_end) three c.in_ok-put_list_end.ensures in
    grows_same a c.put_list_end.new.draft (λ values. list_start ++ value values ++ others values ++ list_end) (λ values. list_start ++ (value values ++ others values) ++ list_end) all
    (λ values many. ap (λ l. l ++ list_end) (append_assoc list_start (value values) (others values)))
