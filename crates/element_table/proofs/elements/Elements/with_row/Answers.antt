use Rattle.std.proofs.Common.{◌≡◌, ◌∙◌, ◌++◌, ◌∷◌, [], ℕ, None, refl, sym, ap, string_bytes}
use Rattle.std.specs.Map.{lookup}
use Rattle.std.proofs.lemmas.Map.Text.{btree_set_updates_text}
use Rattle.indexmap.proofs.CallerLemmas.{insert_entry-new}
use Rattle.text_spec.specs.Name.{printed_name}
use Rattle.element_table.specs.declared.elements.Row.{Row}
use Rattle.element_table.specs.Keyed.{IsKeyed}
use Rattle.element_table.proofs.KeyedLemmas.{is_key, absent, keyed_more, rows_more, printed_more}
use Rattle.element_table.proofs.NameLemmas.{prefix_no_colon}
use Rattle.element_table.proofs.elements.Elements.with_row.Goals as goal

entry : goal.In-Ok-insert → (ℕ × ℕ) × Row
entry c = ((c.args.element.pen, c.args.element.id), record { element = c.args.element; printed = c.from_string.result })

none : (c : goal.In-Ok-insert) → lookup (is_key c.args.element.pen c.args.element.id) c.self.inside.rows.entries ≡ None
none c = absent _ _ c.self.inside.rows.entries c.self.invariant.0 (rw c.self.view_is c.requires.fresh)

entries : (c : goal.In-Ok-insert) → c.insert.new.self.entries ≡ c.self.inside.rows.entries ++ entry c ∷ []
unfolding entry
entries c = c.in-Ok.ensures.entries ∙ insert_entry-new _ c.self.inside.rows _ _ (none c)

new_keyed : (c : goal.In-Ok-insert) → IsKeyed (entry c)
unfolding entry
new_keyed c = record { pair = refl; printed = c.from_string.ensures ∙ c.requires.name; prefix = prefix_no_colon c.args.element.prefix c.requires.form }

word : (c : goal.In-Ok-insert) → string_bytes c.in_ok-word.word ≡ printed_name c.args.element
word c = c.in_ok-word.ensures.cases ∙ c.requires.name

pub invariant_of-result : goal.invariant_of-result
unfolding entry
invariant_of-result c = rw (entries c) (
  keyed_more _ _ c.self.invariant.0 (new_keyed c),
  λ q. btree_set_updates_text (string_bytes c.in_ok-word.word) _ _ _ c.in-Ok-insert.ensures.updates q
      ∙ rw (word c, c.self.invariant.1 q, rows_more c.self.inside.rows.entries (entry c)) (sym (printed_more q _ c.args.element)),
)

pub returns : goal.returns
unfolding entry
returns c = rw (entries c) (rows_more _ _ ∙ ap (λ rows. rows ++ c.args.element ∷ []) c.self.view_is)
