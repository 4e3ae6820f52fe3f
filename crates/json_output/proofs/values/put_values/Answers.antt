use Rattle.std.proofs.Common.{◌≡◌, ◌+◌, ◌++◌, true, false, [], get_or, drop, length, ap, ◌∙◌}
use Rattle.std.specs.Prelude.{zip}
use Rattle.std.specs.List.{list_any, flat_map}
use Rattle.text_spec.specs.Fields.{pair_of, is_of, values_at}
use Rattle.text_spec.specs.Json.{values_text}
use Rattle.text_spec.specs.Marks.{comma, list_start, list_end}
use Rattle.text_spec.specs.Value.{value_text}
use Rattle.prepared_lines.proofs.GrowLemmas.{grows_same}
use Rattle.json_output.proofs.ElementLemmas.{one_text, list_text}
use Rattle.json_output.proofs.ChainLemmas.{none_where, some_where}
use Rattle.json_output.proofs.values.put_values.Goals as goal

pub returns-then-is_last : goal.returns-then-is_last
returns-then-is_last c =
    let last : list_any (is_of (pair_of c.args.field)) (drop (c.args.at + 1) c.args.fields.now) ≡ false = none_where _ _ c.is_last.ensures c.if-is_last.true in
    grows_same c.args.draft.now c.put_value.new.self (λ values. value_text c.args.kind (get_or values c.args.at []))
    (λ values. values_text (value_text c.args.kind) (values_at (pair_of c.args.field) (zip c.args.fields.now values))) c.in_ok-put_value.ensures.ok
    (λ values many. one_text (value_text c.args.kind) c.args.fields.now values c.args.at c.args.field c.requires.is c.requires.inside (many ∙ ap length c.requires.fields) c.requires.first last)

pub returns : goal.returns
returns c =
    let more : list_any (is_of (pair_of c.args.field)) (drop (c.args.at + 1) c.args.fields.now) ≡ true = some_where _ _ c.is_last.ensures c.if-is_last.false in
    grows_same c.args.draft.now c.put_list.new.draft
    (λ values. list_start ++ (value_text c.args.kind (get_or values c.args.at []) ++ flat_map (λ v. comma ++ value_text c.args.kind v) (values_at (pair_of c.args.field) (zip (drop (c.args.at + 1) c.args.fields.now) (drop (c.args.at + 1) values)))) ++ list_end)
    (λ values. values_text (value_text c.args.kind) (values_at (pair_of c.args.field) (zip c.args.fields.now values))) c.in_ok-put_list.ensures
    (λ values many. list_text (value_text c.args.kind) c.args.fields.now values c.args.at c.args.field c.requires.is c.requires.inside (many ∙ ap length c.requires.fields) c.requires.first more)
