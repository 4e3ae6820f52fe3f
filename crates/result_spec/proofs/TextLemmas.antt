-- The texts of runs over the example messages: each message is read by hand, and the rest computed.
use Rattle.std.proofs.Common.{◌≡◌, true, false, List, [], ◌∷◌, ◌++◌, refl, map}
use Rattle.std.specs.Prelude.{Ok, Err}
use Rattle.std.specs.Str.{is_utf8, chars}
use Rattle.std.specs.Fmt.{digits}
use Rattle.col_base.specs.declared.base.Transport.TheVariants.{File, Tcp, Udp}
use Rattle.wire_spec.specs.declared.malformed.MalformedKind.TheVariants.{EmptyRecord}
use Rattle.wire_spec.specs.Examples.{empty_template, data_alone, data_alone_message, one_flow, one_flow_message, options, options_message, padded_flow, padded_flow_message, repeated_element, repeated_element_message, two_flows, two_flows_message, two_templates, two_templates_message, variable_names, variable_names_message, withdrawal, withdrawal_message}
use Rattle.wire_spec.proofs.ExampleLemmas.{empty_template_breaks, data_alone_says, one_flow_says, options_says, padded_flow_says, repeated_element_says, two_flows_says, two_templates_says, variable_names_says, withdrawal_says}
use Rattle.arrival_spec.specs.declared.event.Scripted.TheVariants.{Opened, Bytes, Closed}
use Rattle.arrival_spec.specs.Arrival.Arrival.{SessionOpen, Raw, SessionClose}
use Rattle.arrival_spec.specs.Examples.{one_and_a_front, over, two_and_another_version}
use Rattle.arrival_spec.specs.Sessions.{key_of}
use Rattle.text_spec.specs.Marks.{quote, hexadecimal_mark, dot, colon, comma, enterprise_mark, id_mark, before_name, after_name, list_start, list_end, entry_start, options_start, line_end, equals_sign, space, four_spaces, line_feed, slash, session_mark, open_mark, close_mark, message_mark, domain_mark, export_mark, sequence_mark, records_mark, template_mark}
use Rattle.text_spec.specs.Value.{value_text}
use Rattle.text_spec.specs.Name.{find_element, name_text, type_at}
use Rattle.text_spec.specs.Json.{json_line}
use Rattle.text_spec.specs.View.{transport_word, opened_line, closed_line, message_line, set_line, view_line}
use Rattle.text_spec.specs.Builtin.{builtin_rows}
use Rattle.run_spec.specs.Read.{ReadArrival}
use Rattle.run_spec.specs.Work.{items_of}
use Rattle.run_spec.specs.Examples.{all_over, from_peer, stream_of}
use Rattle.run_spec.specs.Result.{IsText}
use Rattle.result_spec.specs.Result.{IsRunResult, inputs_of, result_text}
use Rattle.result_spec.specs.Lines.{destination_line, filtered, flow_line, flow_view, more_rows, name_line, named_line, options_line, repeated_line, second_file, second_line, skipped_view, source_line, two_addresses}
use Rattle.result_spec.specs.TwoFiles.{one_file, three_arrivals}

pub nothing_text : IsText (over File) true builtin_rows (Opened 0 ∷ Closed 0 ∷ []) []
unfolding json_line builtin_rows find_element name_text type_at value_text quote hexadecimal_mark dot colon comma enterprise_mark id_mark before_name after_name list_start list_end entry_start options_start line_end is_utf8 chars digits lib.Utf8.encode
nothing_text =
    let read : List ReadArrival = SessionOpen (key_of 0 0) File ∷ SessionClose (key_of 0 0) ∷ [] in
    (items_of (all_over File) read, (read, (refl, (refl, tt)), refl), refl)

pub one_flow_text : IsText (over File) true builtin_rows (stream_of one_flow) flow_line
unfolding json_line builtin_rows find_element name_text type_at value_text quote hexadecimal_mark dot colon comma enterprise_mark id_mark before_name after_name list_start list_end entry_start options_start line_end is_utf8 chars digits lib.Utf8.encode
one_flow_text =
    let read : List ReadArrival = SessionOpen (key_of 0 0) File ∷ Raw (key_of 0 0) (Ok one_flow_message) ∷ SessionClose (key_of 0 0) ∷ [] in
    (items_of (all_over File) read, (read, (refl, ((Ok one_flow_message, one_flow_says, refl), (refl, tt))), refl), refl)

pub padded_flow_text : IsText (over File) true builtin_rows (stream_of padded_flow) flow_line
unfolding json_line builtin_rows find_element name_text type_at value_text quote hexadecimal_mark dot colon comma enterprise_mark id_mark before_name after_name list_start list_end entry_start options_start line_end is_utf8 chars digits lib.Utf8.encode
padded_flow_text =
    let read : List ReadArrival = SessionOpen (key_of 0 0) File ∷ Raw (key_of 0 0) (Ok padded_flow_message) ∷ SessionClose (key_of 0 0) ∷ [] in
    (items_of (all_over File) read, (read, (refl, ((Ok padded_flow_message, padded_flow_says, refl), (refl, tt))), refl), refl)

pub two_flows_text : IsText (over File) true builtin_rows (stream_of two_flows) (flow_line ++ flow_line)
unfolding json_line builtin_rows find_element name_text type_at value_text quote hexadecimal_mark dot colon comma enterprise_mark id_mark before_name after_name list_start list_end entry_start options_start line_end is_utf8 chars digits lib.Utf8.encode
two_flows_text =
    let read : List ReadArrival = SessionOpen (key_of 0 0) File ∷ Raw (key_of 0 0) (Ok two_flows_message) ∷ SessionClose (key_of 0 0) ∷ [] in
    (items_of (all_over File) read, (read, (refl, ((Ok two_flows_message, two_flows_says, refl), (refl, tt))), refl), refl)

pub variable_names_text : IsText (over File) true builtin_rows (stream_of variable_names) (name_line ++ name_line)
unfolding json_line builtin_rows find_element name_text type_at value_text quote hexadecimal_mark dot colon comma enterprise_mark id_mark before_name after_name list_start list_end entry_start options_start line_end is_utf8 chars digits lib.Utf8.encode
variable_names_text =
    let read : List ReadArrival = SessionOpen (key_of 0 0) File ∷ Raw (key_of 0 0) (Ok variable_names_message) ∷ SessionClose (key_of 0 0) ∷ [] in
    (items_of (all_over File) read, (read, (refl, ((Ok variable_names_message, variable_names_says, refl), (refl, tt))), refl), refl)

pub two_templates_text : IsText (over File) true builtin_rows (stream_of two_templates) (source_line ++ destination_line)
unfolding json_line builtin_rows find_element name_text type_at value_text quote hexadecimal_mark dot colon comma enterprise_mark id_mark before_name after_name list_start list_end entry_start options_start line_end is_utf8 chars digits lib.Utf8.encode
two_templates_text =
    let read : List ReadArrival = SessionOpen (key_of 0 0) File ∷ Raw (key_of 0 0) (Ok two_templates_message) ∷ SessionClose (key_of 0 0) ∷ [] in
    (items_of (all_over File) read, (read, (refl, ((Ok two_templates_message, two_templates_says, refl), (refl, tt))), refl), refl)

pub repeated_element_text : IsText (over File) true builtin_rows (stream_of repeated_element) repeated_line
unfolding json_line builtin_rows find_element name_text type_at value_text quote hexadecimal_mark dot colon comma enterprise_mark id_mark before_name after_name list_start list_end entry_start options_start line_end is_utf8 chars digits lib.Utf8.encode
repeated_element_text =
    let read : List ReadArrival = SessionOpen (key_of 0 0) File ∷ Raw (key_of 0 0) (Ok repeated_element_message) ∷ SessionClose (key_of 0 0) ∷ [] in
    (items_of (all_over File) read, (read, (refl, ((Ok repeated_element_message, repeated_element_says, refl), (refl, tt))), refl), refl)

pub options_text : IsText (over File) true builtin_rows (stream_of options) options_line
unfolding json_line builtin_rows find_element name_text type_at value_text quote hexadecimal_mark dot colon comma enterprise_mark id_mark before_name after_name list_start list_end entry_start options_start line_end is_utf8 chars digits lib.Utf8.encode
options_text =
    let read : List ReadArrival = SessionOpen (key_of 0 0) File ∷ Raw (key_of 0 0) (Ok options_message) ∷ SessionClose (key_of 0 0) ∷ [] in
    (items_of (all_over File) read, (read, (refl, ((Ok options_message, options_says, refl), (refl, tt))), refl), refl)

pub torn_text : IsText (over File) true builtin_rows (stream_of one_and_a_front) flow_line
unfolding json_line builtin_rows find_element name_text type_at value_text quote hexadecimal_mark dot colon comma enterprise_mark id_mark before_name after_name list_start list_end entry_start options_start line_end is_utf8 chars digits lib.Utf8.encode
torn_text =
    let read : List ReadArrival = SessionOpen (key_of 0 0) File ∷ Raw (key_of 0 0) (Ok one_flow_message) ∷ SessionClose (key_of 0 0) ∷ [] in
    (items_of (all_over File) read, (read, (refl, ((Ok one_flow_message, one_flow_says, refl), (refl, tt))), refl), refl)

pub malformed_text : IsText (over File) true builtin_rows (stream_of empty_template) []
unfolding json_line builtin_rows find_element name_text type_at value_text quote hexadecimal_mark dot colon comma enterprise_mark id_mark before_name after_name list_start list_end entry_start options_start line_end is_utf8 chars digits lib.Utf8.encode
malformed_text =
    let read : List ReadArrival = SessionOpen (key_of 0 0) File ∷ Raw (key_of 0 0) (Err (record { kind = EmptyRecord; at = 20 })) ∷ SessionClose (key_of 0 0) ∷ [] in
    (items_of (all_over File) read, (read, (refl, ((Err (record { kind = EmptyRecord; at = 20 }), empty_template_breaks, refl), (refl, tt))), refl), refl)

pub broken_text : IsText (over Tcp) true builtin_rows (stream_of two_and_another_version) (flow_line ++ flow_line)
unfolding json_line builtin_rows find_element name_text type_at value_text quote hexadecimal_mark dot colon comma enterprise_mark id_mark before_name after_name list_start list_end entry_start options_start line_end is_utf8 chars digits lib.Utf8.encode
broken_text =
    let read : List ReadArrival = SessionOpen (key_of 0 0) Tcp ∷ Raw (key_of 0 0) (Ok one_flow_message) ∷ Raw (key_of 0 0) (Ok one_flow_message) ∷ SessionClose (key_of 0 0) ∷ [] in
    (items_of (all_over Tcp) read, (read, (refl, ((Ok one_flow_message, one_flow_says, refl), ((Ok one_flow_message, one_flow_says, refl), (refl, tt)))), refl), refl)

pub octet_by_octet_text : IsText (over Tcp) true builtin_rows (Opened 0 ∷ map (λ o. Bytes 0 (o ∷ [])) two_and_another_version) (flow_line ++ flow_line)
unfolding json_line builtin_rows find_element name_text type_at value_text quote hexadecimal_mark dot colon comma enterprise_mark id_mark before_name after_name list_start list_end entry_start options_start line_end is_utf8 chars digits lib.Utf8.encode
octet_by_octet_text =
    let read : List ReadArrival = SessionOpen (key_of 0 0) Tcp ∷ Raw (key_of 0 0) (Ok one_flow_message) ∷ Raw (key_of 0 0) (Ok one_flow_message) ∷ SessionClose (key_of 0 0) ∷ [] in
    (items_of (all_over Tcp) read, (read, (refl, ((Ok one_flow_message, one_flow_says, refl), ((Ok one_flow_message, one_flow_says, refl), (refl, tt)))), refl), refl)

pub withdrawn_text : IsText (over Tcp) true builtin_rows (stream_of (one_flow ++ withdrawal ++ data_alone ++ one_flow)) (flow_line ++ flow_line)
unfolding json_line builtin_rows find_element name_text type_at value_text quote hexadecimal_mark dot colon comma enterprise_mark id_mark before_name after_name list_start list_end entry_start options_start line_end is_utf8 chars digits lib.Utf8.encode
withdrawn_text =
    let read : List ReadArrival = SessionOpen (key_of 0 0) Tcp ∷ Raw (key_of 0 0) (Ok one_flow_message) ∷ Raw (key_of 0 0) (Ok withdrawal_message) ∷ Raw (key_of 0 0) (Ok data_alone_message) ∷ Raw (key_of 0 0) (Ok one_flow_message) ∷ SessionClose (key_of 0 0) ∷ [] in
    (items_of (all_over Tcp) read, (read, (refl, ((Ok one_flow_message, one_flow_says, refl), ((Ok withdrawal_message, withdrawal_says, refl), ((Ok data_alone_message, data_alone_says, refl), ((Ok one_flow_message, one_flow_says, refl), (refl, tt)))))), refl), refl)

pub not_over_udp_text : IsText (over Udp) true builtin_rows (from_peer (one_flow ∷ withdrawal ∷ data_alone ∷ one_flow ∷ [])) (flow_line ++ flow_line ++ flow_line)
unfolding json_line builtin_rows find_element name_text type_at value_text quote hexadecimal_mark dot colon comma enterprise_mark id_mark before_name after_name list_start list_end entry_start options_start line_end is_utf8 chars digits lib.Utf8.encode
not_over_udp_text =
    let read : List ReadArrival = SessionOpen (key_of 0 0) Udp ∷ Raw (key_of 0 0) (Ok one_flow_message) ∷ Raw (key_of 0 0) (Ok withdrawal_message) ∷ Raw (key_of 0 0) (Ok data_alone_message) ∷ Raw (key_of 0 0) (Ok one_flow_message) ∷ SessionClose (key_of 0 0) ∷ [] in
    (items_of (all_over Udp) read, (read, (refl, ((Ok one_flow_message, one_flow_says, refl), ((Ok withdrawal_message, withdrawal_says, refl), ((Ok data_alone_message, data_alone_says, refl), ((Ok one_flow_message, one_flow_says, refl), (refl, tt)))))), refl), refl)

pub named_text : IsText (over File) true more_rows (stream_of repeated_element) named_line
unfolding json_line builtin_rows find_element name_text type_at value_text quote hexadecimal_mark dot colon comma enterprise_mark id_mark before_name after_name list_start list_end entry_start options_start line_end is_utf8 chars digits lib.Utf8.encode
named_text =
    let read : List ReadArrival = SessionOpen (key_of 0 0) File ∷ Raw (key_of 0 0) (Ok repeated_element_message) ∷ SessionClose (key_of 0 0) ∷ [] in
    (items_of (all_over File) read, (read, (refl, ((Ok repeated_element_message, repeated_element_says, refl), (refl, tt))), refl), refl)

pub without_options_text : IsText (over File) false builtin_rows (stream_of options) []
unfolding json_line builtin_rows find_element name_text type_at value_text quote hexadecimal_mark dot colon comma enterprise_mark id_mark before_name after_name list_start list_end entry_start options_start line_end is_utf8 chars digits lib.Utf8.encode
without_options_text =
    let read : List ReadArrival = SessionOpen (key_of 0 0) File ∷ Raw (key_of 0 0) (Ok options_message) ∷ SessionClose (key_of 0 0) ∷ [] in
    (items_of (all_over File) read, (read, (refl, ((Ok options_message, options_says, refl), (refl, tt))), refl), refl)

pub templates_stay_text : IsText (over File) false builtin_rows (stream_of one_flow) flow_line
unfolding json_line builtin_rows find_element name_text type_at value_text quote hexadecimal_mark dot colon comma enterprise_mark id_mark before_name after_name list_start list_end entry_start options_start line_end is_utf8 chars digits lib.Utf8.encode
templates_stay_text =
    let read : List ReadArrival = SessionOpen (key_of 0 0) File ∷ Raw (key_of 0 0) (Ok one_flow_message) ∷ SessionClose (key_of 0 0) ∷ [] in
    (items_of (all_over File) read, (read, (refl, ((Ok one_flow_message, one_flow_says, refl), (refl, tt))), refl), refl)

pub one_flow_viewed : IsRunResult one_file builtin_rows (stream_of one_flow ∷ []) three_arrivals 0 flow_view
unfolding transport_word opened_line closed_line message_line set_line view_line builtin_rows find_element name_text type_at value_text quote dot colon equals_sign space four_spaces line_feed slash session_mark open_mark close_mark message_mark domain_mark export_mark sequence_mark records_mark template_mark digits
one_flow_viewed =
    let read : List ReadArrival = SessionOpen (key_of 0 0) File ∷ Raw (key_of 0 0) (Ok one_flow_message) ∷ SessionClose (key_of 0 0) ∷ [] in
    (items_of (inputs_of one_file) read, (read, (refl, ((Ok one_flow_message, one_flow_says, refl), (refl, tt))), refl), refl)

pub without_options_result : IsRunResult one_file builtin_rows (stream_of options ∷ []) three_arrivals 1 []
without_options_result =
    let read : List ReadArrival = SessionOpen (key_of 0 0) File ∷ Raw (key_of 0 0) (Ok options_message) ∷ SessionClose (key_of 0 0) ∷ [] in
    (items_of (inputs_of one_file) read, (read, (refl, ((Ok options_message, options_says, refl), (refl, tt))), refl), refl)

pub skipped_viewed : IsRunResult one_file builtin_rows (stream_of data_alone ∷ []) three_arrivals 0 skipped_view
unfolding transport_word opened_line closed_line message_line set_line view_line builtin_rows find_element name_text type_at value_text quote dot colon equals_sign space four_spaces line_feed slash session_mark open_mark close_mark message_mark domain_mark export_mark sequence_mark records_mark template_mark digits
skipped_viewed =
    let read : List ReadArrival = SessionOpen (key_of 0 0) File ∷ Raw (key_of 0 0) (Ok data_alone_message) ∷ SessionClose (key_of 0 0) ∷ [] in
    (items_of (inputs_of one_file) read, (read, (refl, ((Ok data_alone_message, data_alone_says, refl), (refl, tt))), refl), refl)

pub second_in_lines : result_text filtered builtin_rows 0 (two_addresses ∷ []) ≡ second_line
unfolding json_line builtin_rows find_element name_text type_at value_text quote hexadecimal_mark dot colon comma enterprise_mark id_mark before_name after_name list_start list_end entry_start options_start line_end is_utf8 chars digits lib.Utf8.encode
second_in_lines = refl

pub second_in_a_file : result_text filtered builtin_rows 1 (two_addresses ∷ []) ≡ second_file
second_in_a_file = refl
