-- The lines of a file behind an anonymiser: its message is read by hand, and the rest computed.
use Rattle.std.proofs.Common.{ℕ, List, [], ◌∷◌, refl, lit≤}
use Rattle.std.specs.Prelude.{Ok}
use Rattle.std.specs.Str.{is_utf8, chars}
use Rattle.std.specs.Fmt.{digits}
use Rattle.col_base.specs.declared.base.Transport.TheVariants.{File}
use Rattle.wire_spec.specs.Content.{Says}
use Rattle.config_spec.specs.declared.tables.AnonRow.{AnonRow}
use Rattle.arrival_spec.specs.Arrival.Arrival.{SessionOpen, Raw, SessionClose}
use Rattle.text_spec.specs.Marks.{quote, hexadecimal_mark, dot, colon, comma, enterprise_mark, id_mark, before_name, after_name, list_start, list_end, entry_start, options_start, line_end}
use Rattle.text_spec.specs.Value.{value_text}
use Rattle.text_spec.specs.Name.{find_element, name_text, type_at}
use Rattle.text_spec.specs.Json.{json_line}
use Rattle.text_spec.specs.Builtin.{builtin_rows}
use Rattle.run_spec.specs.Read.{ReadArrival, AreReadAs}
use Rattle.run_spec.specs.Work.{items_of}
use Rattle.run_spec.specs.Merge.{merged}
use Rattle.run_spec.specs.Examples.{stream_of}
use Rattle.result_spec.specs.Result.{IsRunResult, inputs_of, arrivals_from}
use Rattle.result_spec.specs.Examples.{in_a}
use Rattle.result_spec.specs.Hidden.{cut_lines, hiding, narrow_row, replaced_lines, three_addresses, three_addresses_message, wide_row}
use Rattle.result_spec.specs.TwoFiles.{three_arrivals}

three_addresses_says : Says three_addresses three_addresses_message
three_addresses_says = record {
  sets = ((0 ∷ 2 ∷ 0 ∷ 12 ∷ 1 ∷ 0 ∷ 0 ∷ 1 ∷ 0 ∷ 8 ∷ 0 ∷ 4 ∷ []) ∷ (1 ∷ 0 ∷ 0 ∷ 16 ∷ 10 ∷ 1 ∷ 2 ∷ 3 ∷ 10 ∷ 9 ∷ 8 ∷ 7 ∷ 11 ∷ 0 ∷ 0 ∷ 1 ∷ []) ∷ []);
  are = record { unbroken = refl; body = record { end = ([]); whole = refl; each = (record { unbroken = refl; whole = refl; body = (((1 ∷ 0 ∷ 0 ∷ 1 ∷ 0 ∷ 8 ∷ 0 ∷ 4 ∷ []) ∷ []), record { end = ([]); whole = refl; each = (record { front = lit≤ tt; unbroken = refl; whole = refl }, tt); ends = refl }) }, (record { unbroken = refl; whole = refl; body = tt }, tt)); ends = refl } };
  parts = ((((1 ∷ 0 ∷ 0 ∷ 1 ∷ 0 ∷ 8 ∷ 0 ∷ 4 ∷ []) ∷ []), record { end = ([]); whole = refl; each = (record { front = lit≤ tt; unbroken = refl; whole = refl }, tt); ends = refl }, refl), (refl, tt));
  export = refl;
  sequence = refl;
  domain = refl;
}

abbrev read : List ReadArrival
read = SessionOpen in_a File ∷ Raw in_a (Ok three_addresses_message) ∷ SessionClose in_a ∷ []

read_as : (cut : ℕ) (rows : List AnonRow) → AreReadAs (merged three_arrivals (arrivals_from (inputs_of (hiding cut rows)) 0 (stream_of three_addresses ∷ []))) read
read_as cut rows = (refl, ((Ok three_addresses_message, three_addresses_says, refl), (refl, tt)))

pub replaced_by_rows : IsRunResult (hiding 32 (wide_row ∷ narrow_row ∷ [])) builtin_rows (stream_of three_addresses ∷ []) three_arrivals 0 replaced_lines
unfolding json_line builtin_rows find_element name_text type_at value_text quote hexadecimal_mark dot colon comma enterprise_mark id_mark before_name after_name list_start list_end entry_start options_start line_end is_utf8 chars digits lib.Utf8.encode
replaced_by_rows = (items_of (inputs_of (hiding 32 (wide_row ∷ narrow_row ∷ []))) read, (read, read_as 32 (wide_row ∷ narrow_row ∷ []), refl), refl)

pub replaced_in_the_other_order : IsRunResult (hiding 32 (narrow_row ∷ wide_row ∷ [])) builtin_rows (stream_of three_addresses ∷ []) three_arrivals 0 replaced_lines
unfolding json_line builtin_rows find_element name_text type_at value_text quote hexadecimal_mark dot colon comma enterprise_mark id_mark before_name after_name list_start list_end entry_start options_start line_end is_utf8 chars digits lib.Utf8.encode
replaced_in_the_other_order = (items_of (inputs_of (hiding 32 (narrow_row ∷ wide_row ∷ []))) read, (read, read_as 32 (narrow_row ∷ wide_row ∷ []), refl), refl)

pub cut_without_rows : IsRunResult (hiding 24 []) builtin_rows (stream_of three_addresses ∷ []) three_arrivals 0 cut_lines
unfolding json_line builtin_rows find_element name_text type_at value_text quote hexadecimal_mark dot colon comma enterprise_mark id_mark before_name after_name list_start list_end entry_start options_start line_end is_utf8 chars digits lib.Utf8.encode
cut_without_rows = (items_of (inputs_of (hiding 24 [])) read, (read, read_as 24 [], refl), refl)
