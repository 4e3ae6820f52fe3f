-- The known tables are what the definition says: each by computation.
use Rattle.std.proofs.Common.{refl}
use Rattle.std.specs.Str.{is_utf8, chars}
use Rattle.toml.proofs.OnLiterals.{toml_on_literals}
use Rattle.text_spec.specs.Marks.{enterprise_mark}
use Rattle.text_spec.specs.Name.{find_element}
use Rattle.text_spec.specs.Builtin.{builtin_rows}
use Rattle.element_spec.specs.Words.{word_of, type_word}
use Rattle.element_spec.specs.Names.{has_name}
use Rattle.element_spec.specs.Rows.{are_known, number_at, text_at, row_of}
use Rattle.element_spec.specs.Table.{value_added, items_list, document_tables, text_added}
use Rattle.element_spec.specs.Examples.{HasOneRow, IsDuplicateTwice, HasBadType, HasNoRows}

pub one_row : HasOneRow
unfolding toml_on_literals is_utf8 chars lib.Utf8.encode text_added document_tables items_list value_added row_of text_at number_at are_known has_name word_of type_word find_element builtin_rows enterprise_mark
one_row = refl

pub duplicate : IsDuplicateTwice
unfolding toml_on_literals is_utf8 chars lib.Utf8.encode text_added document_tables items_list value_added row_of text_at number_at are_known has_name word_of type_word find_element builtin_rows enterprise_mark
duplicate = refl

pub bad_type : HasBadType
unfolding toml_on_literals is_utf8 chars lib.Utf8.encode text_added document_tables items_list value_added row_of text_at number_at are_known has_name word_of type_word find_element builtin_rows enterprise_mark
bad_type = refl

pub no_rows : HasNoRows
unfolding toml_on_literals is_utf8 chars lib.Utf8.encode text_added document_tables items_list are_known word_of builtin_rows
no_rows = refl
