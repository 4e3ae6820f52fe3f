-- The known texts are those of the definitions: each by computation.
use Rattle.std.proofs.Common.{refl}
use Rattle.text_spec.specs.Marks.{quote, hexadecimal_mark, dot, colon, comma, equals_sign, space, four_spaces, line_feed, slash, session_mark, open_mark, close_mark, tick_mark, message_mark, domain_mark, export_mark, sequence_mark, records_mark, template_mark, true_text, false_text, escaped_quote, escaped_backslash, escape_mark, enterprise_mark, id_mark, before_name, after_name, list_start, list_end, entry_start, options_start, line_end}
use Rattle.text_spec.specs.Value.{value_text}
use Rattle.text_spec.specs.Name.{find_element, name_text, type_at}
use Rattle.text_spec.specs.Json.{json_line}
use Rattle.text_spec.specs.View.{transport_word, opened_line, closed_line, tick_line, message_line, set_line, view_line}
use Rattle.text_spec.specs.Builtin.{builtin_rows}
use Rattle.std.specs.Str.{is_utf8, chars}
use Rattle.std.specs.Fmt.{digits}
use Rattle.std.specs.Net.Text.{hex, hex_groups_text}
use Rattle.text_spec.specs.Examples.{HaveTexts, unsigned_values, signed_values, boolean_values, address_values, ipv6_values, string_values, time_values, octet_values, HasFlowLine, HasFlowView, HaveViews, HasNameLine, HasRepeatedLine, HasNamedLine, HasOptionsLine, HasPaddedLine}

pub unsigned_have_texts : HaveTexts unsigned_values
unfolding value_text quote hexadecimal_mark dot colon true_text false_text escaped_quote escaped_backslash escape_mark is_utf8 chars digits hex hex_groups_text lib.Utf8.encode
unsigned_have_texts = (refl, (refl, (refl, (refl, (refl, (refl, (refl, (refl, (refl, tt)))))))))

pub signed_have_texts : HaveTexts signed_values
unfolding value_text quote hexadecimal_mark dot colon true_text false_text escaped_quote escaped_backslash escape_mark is_utf8 chars digits hex hex_groups_text lib.Utf8.encode
signed_have_texts = (refl, (refl, (refl, (refl, (refl, (refl, (refl, (refl, (refl, tt)))))))))

pub boolean_have_texts : HaveTexts boolean_values
unfolding value_text quote hexadecimal_mark dot colon true_text false_text escaped_quote escaped_backslash escape_mark is_utf8 chars digits hex hex_groups_text lib.Utf8.encode
boolean_have_texts = (refl, (refl, (refl, (refl, tt))))

pub address_have_texts : HaveTexts address_values
unfolding value_text quote hexadecimal_mark dot colon true_text false_text escaped_quote escaped_backslash escape_mark is_utf8 chars digits hex hex_groups_text lib.Utf8.encode
address_have_texts = (refl, (refl, (refl, (refl, tt))))

pub ipv6_have_texts : HaveTexts ipv6_values
unfolding value_text quote hexadecimal_mark dot colon true_text false_text escaped_quote escaped_backslash escape_mark is_utf8 chars digits hex hex_groups_text lib.Utf8.encode
ipv6_have_texts = (refl, (refl, (refl, (refl, (refl, (refl, (refl, tt)))))))

pub string_have_texts : HaveTexts string_values
unfolding value_text quote hexadecimal_mark dot colon true_text false_text escaped_quote escaped_backslash escape_mark is_utf8 chars digits hex hex_groups_text lib.Utf8.encode
string_have_texts = (refl, (refl, (refl, (refl, (refl, (refl, (refl, (refl, (refl, (refl, (refl, tt)))))))))))

pub time_have_texts : HaveTexts time_values
unfolding value_text quote hexadecimal_mark dot colon true_text false_text escaped_quote escaped_backslash escape_mark is_utf8 chars digits hex hex_groups_text lib.Utf8.encode
time_have_texts = (refl, (refl, (refl, (refl, (refl, (refl, (refl, (refl, (refl, (refl, tt))))))))))

pub octet_have_texts : HaveTexts octet_values
unfolding value_text quote hexadecimal_mark dot colon true_text false_text escaped_quote escaped_backslash escape_mark is_utf8 chars digits hex hex_groups_text lib.Utf8.encode
octet_have_texts = (refl, (refl, (refl, (refl, tt))))

pub flow_line : HasFlowLine
unfolding json_line builtin_rows find_element name_text type_at value_text quote hexadecimal_mark dot colon comma enterprise_mark id_mark before_name after_name list_start list_end entry_start options_start line_end is_utf8 chars digits lib.Utf8.encode
flow_line = refl

pub name_line : HasNameLine
unfolding json_line builtin_rows find_element name_text type_at value_text quote hexadecimal_mark dot colon comma enterprise_mark id_mark before_name after_name list_start list_end entry_start options_start line_end is_utf8 chars digits lib.Utf8.encode
name_line = refl

pub repeated_line : HasRepeatedLine
unfolding json_line builtin_rows find_element name_text type_at value_text quote hexadecimal_mark dot colon comma enterprise_mark id_mark before_name after_name list_start list_end entry_start options_start line_end is_utf8 chars digits lib.Utf8.encode
repeated_line = refl

pub named_line : HasNamedLine
unfolding json_line builtin_rows find_element name_text type_at value_text quote hexadecimal_mark dot colon comma enterprise_mark id_mark before_name after_name list_start list_end entry_start options_start line_end is_utf8 chars digits lib.Utf8.encode
named_line = refl

pub options_line : HasOptionsLine
unfolding json_line builtin_rows find_element name_text type_at value_text quote hexadecimal_mark dot colon comma enterprise_mark id_mark before_name after_name list_start list_end entry_start options_start line_end is_utf8 chars digits lib.Utf8.encode
options_line = refl

pub padded_line : HasPaddedLine
unfolding json_line builtin_rows find_element name_text type_at value_text quote hexadecimal_mark dot colon comma enterprise_mark id_mark before_name after_name list_start list_end entry_start options_start line_end is_utf8 chars digits lib.Utf8.encode
padded_line = refl

pub flow_view : HasFlowView
unfolding view_line builtin_rows find_element name_text type_at value_text quote dot colon equals_sign space four_spaces line_feed digits
flow_view = refl

pub line_views : HaveViews
unfolding transport_word opened_line closed_line tick_line message_line set_line space line_feed slash session_mark open_mark close_mark tick_mark message_mark domain_mark export_mark sequence_mark records_mark template_mark digits
line_views = record { opened_file = refl; opened_tcp = refl; opened_udp = refl; closed = refl; tick = refl; message = refl; set = refl }
