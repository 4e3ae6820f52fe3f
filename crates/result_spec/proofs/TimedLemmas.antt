-- The texts of messages of several export times and domains: each message is read by hand, and the rest computed.
use Rattle.std.proofs.Common.{true, List, [], ◌∷◌, ◌++◌, refl}
use Rattle.std.specs.Prelude.{Ok}
use Rattle.std.specs.Str.{is_utf8, chars}
use Rattle.std.specs.Fmt.{digits}
use Rattle.col_base.specs.declared.base.Transport.TheVariants.{File, Udp}
use Rattle.wire_spec.specs.Examples.{first_template, first_template_message}
use Rattle.wire_spec.specs.TimedExamples.{data_at_119, data_at_119_message, data_at_150, data_at_150_message, data_at_1900, data_at_1900_message, data_at_1901, data_at_1901_message, data_at_199, data_at_199_message, data_at_200, data_at_200_message, data_at_99, data_at_99_message, destination_at_200, destination_at_200_message, flow_at_3200, flow_at_3200_message, in_domain_2, in_domain_2_message, in_domain_4, in_domain_4_message, next_hop_at_120, next_hop_at_120_message, other_at_3199, other_at_3199_message, other_data_at_3200, other_data_at_3200_message, source_at_100, source_at_100_message, source_at_5000, source_at_5000_message}
use Rattle.wire_spec.proofs.ExampleLemmas.{first_template_says}
use Rattle.wire_spec.proofs.TimedLemmas.{data_at_119_says, data_at_150_says, data_at_1900_says, data_at_1901_says, data_at_199_says, data_at_200_says, data_at_99_says, destination_at_200_says, flow_at_3200_says, in_domain_2_says, in_domain_4_says, next_hop_at_120_says, other_at_3199_says, other_data_at_3200_says, source_at_100_says, source_at_5000_says}
use Rattle.arrival_spec.specs.Arrival.Arrival.{SessionOpen, Raw, SessionClose}
use Rattle.arrival_spec.specs.Examples.{over}
use Rattle.arrival_spec.specs.Sessions.{key_of}
use Rattle.text_spec.specs.Marks.{quote, hexadecimal_mark, dot, colon, comma, enterprise_mark, id_mark, before_name, after_name, list_start, list_end, entry_start, options_start, line_end}
use Rattle.text_spec.specs.Value.{value_text}
use Rattle.text_spec.specs.Name.{find_element, name_text, type_at}
use Rattle.text_spec.specs.Json.{json_line}
use Rattle.text_spec.specs.Builtin.{builtin_rows}
use Rattle.run_spec.specs.Read.{ReadArrival}
use Rattle.run_spec.specs.Work.{items_of}
use Rattle.run_spec.specs.Examples.{all_over, from_peer, stream_of}
use Rattle.run_spec.specs.Result.{IsText}
use Rattle.result_spec.specs.Result.{IsRunResult, inputs_of}
use Rattle.result_spec.specs.Lines.{destination_line, first_destination_line, fourth_line, next_hop_line, second_source_line, source_line}
use Rattle.result_spec.specs.TwoOutputs.{five_arrivals, two_outputs}

pub by_time_text : IsText (over Udp) true builtin_rows (from_peer (source_at_100 ∷ destination_at_200 ∷ next_hop_at_120 ∷ data_at_150 ∷ data_at_199 ∷ data_at_200 ∷ data_at_119 ∷ data_at_99 ∷ [])) (next_hop_line ++ next_hop_line ++ first_destination_line ++ source_line)
unfolding json_line builtin_rows find_element name_text type_at value_text quote hexadecimal_mark dot colon comma enterprise_mark id_mark before_name after_name list_start list_end entry_start options_start line_end is_utf8 chars digits lib.Utf8.encode
by_time_text =
    let read : List ReadArrival = SessionOpen (key_of 0 0) Udp ∷ Raw (key_of 0 0) (Ok source_at_100_message) ∷ Raw (key_of 0 0) (Ok destination_at_200_message) ∷ Raw (key_of 0 0) (Ok next_hop_at_120_message) ∷ Raw (key_of 0 0) (Ok data_at_150_message) ∷ Raw (key_of 0 0) (Ok data_at_199_message) ∷ Raw (key_of 0 0) (Ok data_at_200_message) ∷ Raw (key_of 0 0) (Ok data_at_119_message) ∷ Raw (key_of 0 0) (Ok data_at_99_message) ∷ SessionClose (key_of 0 0) ∷ [] in
    (items_of (all_over Udp) read, (read, (refl, ((Ok source_at_100_message, source_at_100_says, refl), ((Ok destination_at_200_message, destination_at_200_says, refl), ((Ok next_hop_at_120_message, next_hop_at_120_says, refl), ((Ok data_at_150_message, data_at_150_says, refl), ((Ok data_at_199_message, data_at_199_says, refl), ((Ok data_at_200_message, data_at_200_says, refl), ((Ok data_at_119_message, data_at_119_says, refl), ((Ok data_at_99_message, data_at_99_says, refl), (refl, tt)))))))))), refl), refl)

pub lifetime_text : IsText (over Udp) true builtin_rows (from_peer (source_at_100 ∷ data_at_1900 ∷ data_at_1901 ∷ [])) source_line
unfolding json_line builtin_rows find_element name_text type_at value_text quote hexadecimal_mark dot colon comma enterprise_mark id_mark before_name after_name list_start list_end entry_start options_start line_end is_utf8 chars digits lib.Utf8.encode
lifetime_text =
    let read : List ReadArrival = SessionOpen (key_of 0 0) Udp ∷ Raw (key_of 0 0) (Ok source_at_100_message) ∷ Raw (key_of 0 0) (Ok data_at_1900_message) ∷ Raw (key_of 0 0) (Ok data_at_1901_message) ∷ SessionClose (key_of 0 0) ∷ [] in
    (items_of (all_over Udp) read, (read, (refl, ((Ok source_at_100_message, source_at_100_says, refl), ((Ok data_at_1900_message, data_at_1900_says, refl), ((Ok data_at_1901_message, data_at_1901_says, refl), (refl, tt))))), refl), refl)

pub late_text : IsText (over Udp) true builtin_rows (from_peer (source_at_5000 ∷ flow_at_3200 ∷ other_at_3199 ∷ other_data_at_3200 ∷ [])) destination_line
unfolding json_line builtin_rows find_element name_text type_at value_text quote hexadecimal_mark dot colon comma enterprise_mark id_mark before_name after_name list_start list_end entry_start options_start line_end is_utf8 chars digits lib.Utf8.encode
late_text =
    let read : List ReadArrival = SessionOpen (key_of 0 0) Udp ∷ Raw (key_of 0 0) (Ok source_at_5000_message) ∷ Raw (key_of 0 0) (Ok flow_at_3200_message) ∷ Raw (key_of 0 0) (Ok other_at_3199_message) ∷ Raw (key_of 0 0) (Ok other_data_at_3200_message) ∷ SessionClose (key_of 0 0) ∷ [] in
    (items_of (all_over Udp) read, (read, (refl, ((Ok source_at_5000_message, source_at_5000_says, refl), ((Ok flow_at_3200_message, flow_at_3200_says, refl), ((Ok other_at_3199_message, other_at_3199_says, refl), ((Ok other_data_at_3200_message, other_data_at_3200_says, refl), (refl, tt)))))), refl), refl)

pub some_by_domain : IsRunResult two_outputs builtin_rows (stream_of (first_template ++ in_domain_2 ++ in_domain_4) ∷ []) five_arrivals 0 (source_line ++ fourth_line)
unfolding json_line builtin_rows find_element name_text type_at value_text quote hexadecimal_mark dot colon comma enterprise_mark id_mark before_name after_name list_start list_end entry_start options_start line_end is_utf8 chars digits lib.Utf8.encode
some_by_domain =
    let read : List ReadArrival = SessionOpen (key_of 0 0) File ∷ Raw (key_of 0 0) (Ok first_template_message) ∷ Raw (key_of 0 0) (Ok in_domain_2_message) ∷ Raw (key_of 0 0) (Ok in_domain_4_message) ∷ SessionClose (key_of 0 0) ∷ [] in
    (items_of (inputs_of two_outputs) read, (read, (refl, ((Ok first_template_message, first_template_says, refl), ((Ok in_domain_2_message, in_domain_2_says, refl), ((Ok in_domain_4_message, in_domain_4_says, refl), (refl, tt))))), refl), refl)

pub others_by_domain : IsRunResult two_outputs builtin_rows (stream_of (first_template ++ in_domain_2 ++ in_domain_4) ∷ []) five_arrivals 1 (second_source_line ++ fourth_line)
unfolding json_line builtin_rows find_element name_text type_at value_text quote hexadecimal_mark dot colon comma enterprise_mark id_mark before_name after_name list_start list_end entry_start options_start line_end is_utf8 chars digits lib.Utf8.encode
others_by_domain =
    let read : List ReadArrival = SessionOpen (key_of 0 0) File ∷ Raw (key_of 0 0) (Ok first_template_message) ∷ Raw (key_of 0 0) (Ok in_domain_2_message) ∷ Raw (key_of 0 0) (Ok in_domain_4_message) ∷ SessionClose (key_of 0 0) ∷ [] in
    (items_of (inputs_of two_outputs) read, (read, (refl, ((Ok first_template_message, first_template_says, refl), ((Ok in_domain_2_message, in_domain_2_says, refl), ((Ok in_domain_4_message, in_domain_4_says, refl), (refl, tt))))), refl), refl)
