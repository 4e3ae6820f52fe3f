-- The prepared rows change a value as the table does.
use Rattle.std.proofs.Common.{◌≡◌, ℕ, true, cond, List, Some, None, length, map, refl, ap, sym, subst, ◌∙◌, Bor}
use Rattle.std.specs.Prelude.{◌==◌, ◌||◌, Option, IfSome}
use Rattle.std.specs.Option.{option_copied}
use Rattle.text_spec.specs.Number.{number_of}
use Rattle.config_spec.specs.Texts.{masked}
use Rattle.config_spec.specs.declared.tables.AnonRow.{AnonRow}
use Rattle.config_spec.specs.declared.tables.AnonTable.{AnonTable}
use Rattle.act_spec.specs.Bits.{in_place}
use Rattle.act_spec.specs.Anonymise.{best_row, bits_kept, changed_by, is_address}
use Rattle.anonymise_stage.specs.declared.prepared_row.PreparedRow.{PreparedRow}
use Rattle.anonymise_stage.specs.declared.row_table.RowTable.{RowTable}
use Rattle.anonymise_stage.specs.Ranges.{are_octets}
use Rattle.anonymise_stage.specs.Segments.{row_of, best_at}
use Rattle.anonymise_stage.specs.Table.{Holds, changed_to}
use Rattle.anonymise_stage.proofs.SegmentLemmas.{best_is, best_fits}

pub fits_copied : (octets number : ℕ) (rows : List PreparedRow) (found : Option (Bor PreparedRow)) → option_copied found ≡ best_at octets number rows → IfSome found (λ r. length r.now.row.to ≡ octets)
fits_copied octets number rows None e = tt
fits_copied octets number rows (Some r) e = sym (subst (λ (o : Option PreparedRow). IfSome o (λ q. octets ≡ length q.row.to)) (sym e) (best_fits octets number rows))

pub hidden_some : (bits : ℕ) (rows : List PreparedRow) (value : List ℕ) (r : PreparedRow) → are_octets value ≡ true → Some r ≡ best_at (length value) (number_of value) rows
    → in_place r.row.from.bits r.row.to value ≡ changed_to bits (best_row (map row_of rows) value) value
hidden_some bits rows value r o e =
    ap (λ (f : Option PreparedRow). changed_to bits (Rattle.std.specs.Prelude.option_map row_of f) value) e ∙ ap (λ (f : Option AnonRow). changed_to bits f value) (best_is value rows o)

pub hidden_none : (bits : ℕ) (rows : List PreparedRow) (value : List ℕ) → are_octets value ≡ true → None ≡ best_at (length value) (number_of value) rows
    → masked bits value ≡ changed_to bits (best_row (map row_of rows) value) value
hidden_none bits rows value o e =
    ap (λ (f : Option PreparedRow). changed_to bits (Rattle.std.specs.Prelude.option_map row_of f) value) e ∙ ap (λ (f : Option AnonRow). changed_to bits f value) (best_is value rows o)

changed_same : (table : AnonTable) (row : Option AnonRow) (value : List ℕ) → changed_to (bits_kept table value) row value ≡ changed_by table row value
changed_same table None value = refl
changed_same table (Some row) value = refl

-- An address of four octets, and one of sixteen.
pub hidden_4 : (table : AnonTable) (prepared : RowTable) (value : List ℕ) → Holds table prepared → length value ≡ 4
    → changed_to prepared.cut4 (best_row (map row_of prepared.rows.items) value) value ≡ cond (is_address value) (changed_by table (best_row table.rows value) value) value
hidden_4 table prepared value h e =
    ap (λ (rows : List AnonRow). changed_to prepared.cut4 (best_row rows value) value) h.rows
    ∙ (ap (λ bits. changed_to bits (best_row table.rows value) value) (h.cut4 ∙ ap (λ n. cond (n == 4) table.cut4 table.cut6) (sym e))
    ∙ (changed_same table (best_row table.rows value) value ∙ ap (λ n. cond (n == 4 || n == 16) (changed_by table (best_row table.rows value) value) value) (sym e)))

pub hidden_16 : (table : AnonTable) (prepared : RowTable) (value : List ℕ) → Holds table prepared → length value ≡ 16
    → changed_to prepared.cut6 (best_row (map row_of prepared.rows.items) value) value ≡ cond (is_address value) (changed_by table (best_row table.rows value) value) value
hidden_16 table prepared value h e =
    ap (λ (rows : List AnonRow). changed_to prepared.cut6 (best_row rows value) value) h.rows
    ∙ (ap (λ bits. changed_to bits (best_row table.rows value) value) (h.cut6 ∙ ap (λ n. cond (n == 4) table.cut4 table.cut6) (sym e))
    ∙ (changed_same table (best_row table.rows value) value ∙ ap (λ n. cond (n == 4 || n == 16) (changed_by table (best_row table.rows value) value) value) (sym e)))
