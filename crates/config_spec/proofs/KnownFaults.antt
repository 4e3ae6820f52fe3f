-- The known descriptions have their faults: each by computation.
use Rattle.std.proofs.Common.{refl}
use Rattle.std.specs.Str.{is_utf8, chars}
use Rattle.std.specs.Fmt.{digits}
use Rattle.std.specs.Net.Reader.{read_number, read_octet, read_ipv4, read_segment, read_segments, read_ipv6}
use Rattle.toml.proofs.OnLiterals.{toml_on_literals}
use Rattle.config_spec.specs.Texts.{number_text, address4, address6, address, cut, prefix}
use Rattle.config_spec.specs.Domains.{range_of, domains}
use Rattle.config_spec.specs.Keys.{word_of, kind_word, kinds_of, children_of, rows_of}
use Rattle.config_spec.specs.Fits.{text_at, least_at, is_name, is_place, is_act, items_list, text_test, fits}
use Rattle.config_spec.specs.Faults.{below, key_fault, unknown_fault, kind_of, table_fault, array_fault, whole_fault, top_kind, tables_fault}
use Rattle.config_spec.specs.Values.{number_of, flag_of, keeps, prefix_at, address_at, domains_of, kind_at, tables_at, texts_at, pair_of, rule_of, anon_row_of, stage_of, spec_of, input_of, output_of, conf_in}
use Rattle.config_spec.specs.Repeats.{repeat_fault, names_of, paths_of, prefix_in, prefix_fault}
use Rattle.config_spec.specs.Description.{tree_fault, description}
use Rattle.config_spec.specs.First.{fault_text}
use Rattle.config_spec.specs.Faulty.{HaveFaults, top_faults, kind_faults, input_faults, output_faults, field_faults, address_faults, rule_faults, value_faults, prefix_faults, absent_faults, path_faults, ordered_faults, inner_faults, first_faults}

pub top_faulty : HaveFaults top_faults
unfolding fault_text digits toml_on_literals is_utf8 chars lib.Utf8.encode description tree_fault prefix_fault prefix_in repeat_fault names_of paths_of conf_in output_of input_of spec_of stage_of anon_row_of rule_of pair_of texts_at tables_at kind_at domains_of address_at prefix_at keeps flag_of number_of tables_fault top_kind whole_fault array_fault table_fault kind_of unknown_fault key_fault below text_test fits items_list is_act is_place is_name least_at text_at rows_of children_of kinds_of kind_word word_of domains range_of cut prefix address address6 address4 number_text
top_faulty = refl

pub kind_faulty : HaveFaults kind_faults
unfolding fault_text digits toml_on_literals is_utf8 chars lib.Utf8.encode description tree_fault prefix_fault prefix_in repeat_fault names_of paths_of conf_in output_of input_of spec_of stage_of anon_row_of rule_of pair_of texts_at tables_at kind_at domains_of address_at prefix_at keeps flag_of number_of tables_fault top_kind whole_fault array_fault table_fault kind_of unknown_fault key_fault below text_test fits items_list is_act is_place is_name least_at text_at rows_of children_of kinds_of kind_word word_of domains range_of cut prefix address address6 address4 number_text
kind_faulty = refl

pub input_faulty : HaveFaults input_faults
unfolding fault_text digits toml_on_literals is_utf8 chars lib.Utf8.encode description tree_fault prefix_fault prefix_in repeat_fault names_of paths_of conf_in output_of input_of spec_of stage_of anon_row_of rule_of pair_of texts_at tables_at kind_at domains_of address_at prefix_at keeps flag_of number_of tables_fault top_kind whole_fault array_fault table_fault kind_of unknown_fault key_fault below text_test fits items_list is_act is_place is_name least_at text_at rows_of children_of kinds_of kind_word word_of domains range_of cut prefix address address6 address4 number_text
input_faulty = refl

pub output_faulty : HaveFaults output_faults
unfolding fault_text digits toml_on_literals is_utf8 chars lib.Utf8.encode description tree_fault prefix_fault prefix_in repeat_fault names_of paths_of conf_in output_of input_of spec_of stage_of anon_row_of rule_of pair_of texts_at tables_at kind_at domains_of address_at prefix_at keeps flag_of number_of tables_fault top_kind whole_fault array_fault table_fault kind_of unknown_fault key_fault below text_test fits items_list is_act is_place is_name least_at text_at rows_of children_of kinds_of kind_word word_of domains range_of cut prefix address address6 address4 number_text
output_faulty = refl

pub field_faulty : HaveFaults field_faults
unfolding fault_text digits toml_on_literals is_utf8 chars lib.Utf8.encode description tree_fault prefix_fault prefix_in repeat_fault names_of paths_of conf_in output_of input_of spec_of stage_of anon_row_of rule_of pair_of texts_at tables_at kind_at domains_of address_at prefix_at keeps flag_of number_of tables_fault top_kind whole_fault array_fault table_fault kind_of unknown_fault key_fault below text_test fits items_list is_act is_place is_name least_at text_at rows_of children_of kinds_of kind_word word_of domains range_of cut prefix address address6 address4 number_text
field_faulty = refl

pub rule_faulty : HaveFaults rule_faults
unfolding fault_text digits toml_on_literals is_utf8 chars lib.Utf8.encode description tree_fault prefix_fault prefix_in repeat_fault names_of paths_of conf_in output_of input_of spec_of stage_of anon_row_of rule_of pair_of texts_at tables_at kind_at domains_of address_at prefix_at keeps flag_of number_of tables_fault top_kind whole_fault array_fault table_fault kind_of unknown_fault key_fault below text_test fits items_list is_act is_place is_name least_at text_at rows_of children_of kinds_of kind_word word_of domains range_of cut prefix address address6 address4 number_text
rule_faulty = refl

pub value_faulty : HaveFaults value_faults
unfolding fault_text digits toml_on_literals is_utf8 chars lib.Utf8.encode description tree_fault prefix_fault prefix_in repeat_fault names_of paths_of conf_in output_of input_of spec_of stage_of anon_row_of rule_of pair_of texts_at tables_at kind_at domains_of address_at prefix_at keeps flag_of number_of tables_fault top_kind whole_fault array_fault table_fault kind_of unknown_fault key_fault below text_test fits items_list is_act is_place is_name least_at text_at rows_of children_of kinds_of kind_word word_of domains range_of cut prefix address address6 address4 number_text
value_faulty = refl

pub absent_faulty : HaveFaults absent_faults
unfolding fault_text digits toml_on_literals is_utf8 chars lib.Utf8.encode description tree_fault prefix_fault prefix_in repeat_fault names_of paths_of conf_in output_of input_of spec_of stage_of anon_row_of rule_of pair_of texts_at tables_at kind_at domains_of address_at prefix_at keeps flag_of number_of tables_fault top_kind whole_fault array_fault table_fault kind_of unknown_fault key_fault below text_test fits items_list is_act is_place is_name least_at text_at rows_of children_of kinds_of kind_word word_of domains range_of cut prefix address address6 address4 number_text
absent_faulty = refl

pub path_faulty : HaveFaults path_faults
unfolding fault_text digits toml_on_literals is_utf8 chars lib.Utf8.encode description tree_fault prefix_fault prefix_in repeat_fault names_of paths_of conf_in output_of input_of spec_of stage_of anon_row_of rule_of pair_of texts_at tables_at kind_at domains_of address_at prefix_at keeps flag_of number_of tables_fault top_kind whole_fault array_fault table_fault kind_of unknown_fault key_fault below text_test fits items_list is_act is_place is_name least_at text_at rows_of children_of kinds_of kind_word word_of domains range_of cut prefix address address6 address4 number_text
path_faulty = refl

pub ordered_faulty : HaveFaults ordered_faults
unfolding fault_text digits toml_on_literals is_utf8 chars lib.Utf8.encode description tree_fault prefix_fault prefix_in repeat_fault names_of paths_of conf_in output_of input_of spec_of stage_of anon_row_of rule_of pair_of texts_at tables_at kind_at domains_of address_at prefix_at keeps flag_of number_of tables_fault top_kind whole_fault array_fault table_fault kind_of unknown_fault key_fault below text_test fits items_list is_act is_place is_name least_at text_at rows_of children_of kinds_of kind_word word_of domains range_of cut prefix address address6 address4 number_text
ordered_faulty = refl

pub inner_faulty : HaveFaults inner_faults
unfolding fault_text digits toml_on_literals is_utf8 chars lib.Utf8.encode description tree_fault prefix_fault prefix_in repeat_fault names_of paths_of conf_in output_of input_of spec_of stage_of anon_row_of rule_of pair_of texts_at tables_at kind_at domains_of address_at prefix_at keeps flag_of number_of tables_fault top_kind whole_fault array_fault table_fault kind_of unknown_fault key_fault below text_test fits items_list is_act is_place is_name least_at text_at rows_of children_of kinds_of kind_word word_of domains range_of cut prefix address address6 address4 number_text
inner_faulty = refl

pub first_faulty : HaveFaults first_faults
unfolding fault_text digits toml_on_literals is_utf8 chars lib.Utf8.encode description tree_fault prefix_fault prefix_in repeat_fault names_of paths_of conf_in output_of input_of spec_of stage_of anon_row_of rule_of pair_of texts_at tables_at kind_at domains_of address_at prefix_at keeps flag_of number_of tables_fault top_kind whole_fault array_fault table_fault kind_of unknown_fault key_fault below text_test fits items_list is_act is_place is_name least_at text_at rows_of children_of kinds_of kind_word word_of domains range_of cut prefix address address6 address4 number_text
first_faulty = refl

pub address_faulty : HaveFaults address_faults
unfolding read_ipv4 read_octet read_number read_ipv6 read_segments read_segment fault_text digits toml_on_literals is_utf8 chars lib.Utf8.encode description tree_fault prefix_fault prefix_in repeat_fault names_of paths_of conf_in output_of input_of spec_of stage_of anon_row_of rule_of pair_of texts_at tables_at kind_at domains_of address_at prefix_at keeps flag_of number_of tables_fault top_kind whole_fault array_fault table_fault kind_of unknown_fault key_fault below text_test fits items_list is_act is_place is_name least_at text_at rows_of children_of kinds_of kind_word word_of domains range_of cut prefix address address6 address4 number_text
address_faulty = refl

pub prefix_faulty : HaveFaults prefix_faults
unfolding read_ipv4 read_octet read_number read_ipv6 read_segments read_segment fault_text digits toml_on_literals is_utf8 chars lib.Utf8.encode description tree_fault prefix_fault prefix_in repeat_fault names_of paths_of conf_in output_of input_of spec_of stage_of anon_row_of rule_of pair_of texts_at tables_at kind_at domains_of address_at prefix_at keeps flag_of number_of tables_fault top_kind whole_fault array_fault table_fault kind_of unknown_fault key_fault below text_test fits items_list is_act is_place is_name least_at text_at rows_of children_of kinds_of kind_word word_of domains range_of cut prefix address address6 address4 number_text
prefix_faulty = refl
