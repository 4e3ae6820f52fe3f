-- Texts, item by item.
use Rattle.std.proofs.Common.{◌≡◌, ℕ, List, [], ◌∷◌, ◌++◌, None, refl, ap, ◌∙◌}
use Rattle.std.specs.List.{flat_map}
use Rattle.std.proofs.lemmas.List.Elements.{filter-append}
use Rattle.config_spec.specs.declared.conf.OutputConf.{OutputConf}
use Rattle.config_spec.specs.declared.conf.OutputKind.{OutputKind}
use Rattle.config_spec.specs.declared.conf.OutputKind.TheVariants.{Json, Ipfix, View}
use Rattle.text_spec.specs.declared.element.Element.{Element}
use Rattle.run_spec.specs.Work.{Item}
use Rattle.run_spec.proofs.TextLemmas.{lines_append, views_append}
use Rattle.result_spec.specs.Result.{text_by}
use Rattle.result_spec.specs.Through.{is_for}
use Rattle.message_texts.specs.Puts.{items_at, text_at}
use Rattle.text_forms.specs.Kind.{text_kind}

by_kind : (table : List Element) (kind : OutputKind) → (text_kind kind ≡ None → ⊥) → (items more : List Item) → text_by table kind (items ++ more) ≡ text_by table kind items ++ text_by table kind more
by_kind table (Json options) text items more = lines_append options table items more
by_kind table (Ipfix last) text items more = absurd (text refl)
by_kind table View text items more = views_append table items more

pub texts_append : (table : List Element) (output : OutputConf) → (text_kind output.kind ≡ None → ⊥) → (items more : List Item) → text_at table output (items ++ more) ≡ text_at table output items ++ text_at table output more
texts_append table output text items more = ap (text_by table output.kind) (filter-append (is_for output.domains) items more) ∙ by_kind table output.kind text (items_at output items) (items_at output more)

-- no item has no text
no_text : (table : List Element) (kind : OutputKind) → (text_kind kind ≡ None → ⊥) → text_by table kind [] ≡ []
no_text table (Json options) text = refl
no_text table (Ipfix last) text = absurd (text refl)
no_text table View text = refl

pub texts_each : (table : List Element) (output : OutputConf) → (text_kind output.kind ≡ None → ⊥) → (items : List Item) → text_at table output items ≡ flat_map (λ i. text_at table output (i ∷ [])) items
texts_each table output text [] = no_text table output.kind text
texts_each table output text (i ∷ items) = texts_append table output text (i ∷ []) items ∙ ap (λ (t : List ℕ). text_at table output (i ∷ []) ++ t) (texts_each table output text items)
