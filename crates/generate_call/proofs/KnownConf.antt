-- The text of the description of `generate`: by computation.
use Rattle.std.proofs.Common.{◌≡◌, refl}
use Rattle.std.specs.Prelude.{Ok, Result}
use Rattle.config_spec.specs.declared.conf.Conf.{Conf}
use Rattle.config_spec.specs.declared.fault.ConfFault.{ConfFault}
use Rattle.std.specs.Str.{is_utf8, chars}
use Rattle.std.specs.Fmt.{digits}
use Rattle.std.specs.Net.Reader.{read_number, read_octet, read_ipv4, read_segment, read_segments, read_ipv6}
use Rattle.toml.proofs.OnLiterals.{toml_on_literals}
use Rattle.config_spec.specs.Texts.{number_text, address4, address6, address, cut, prefix}
use Rattle.config_spec.specs.Domains.{range_of, domains}
use Rattle.config_spec.specs.Keys.{word_of, kind_word, kinds_of, children_of, rows_of}
use Rattle.config_spec.specs.Fits.{text_at, least_at, is_name, is_place, is_act, items_list, text_test, fits}
use Rattle.config_spec.specs.Faults.{below, key_fault, unknown_fault, kind_of, table_fault, array_fault, whole_fault, top_kind, tables_fault}
use Rattle.config_spec.specs.Values.{number_of, flag_of, keeps, prefix_at, address_at, domains_of, kind_at, tables_at, texts_at, pair_of, rule_of, anon_row_of, stage_of, spec_of, input_of, output_of, conf_in}
use Rattle.config_spec.specs.Repeats.{repeat_fault, names_of, paths_of, prefix_in, prefix_fault}
use Rattle.config_spec.specs.Description.{tree_fault, description}
use Rattle.call_spec.specs.Load.{load_conf, load_text}

pub load_described : description load_text ≡ Ok load_conf
unfolding read_ipv4 read_octet read_number read_ipv6 read_segments read_segment digits toml_on_literals is_utf8 chars lib.Utf8.encode description tree_fault prefix_fault prefix_in repeat_fault names_of paths_of conf_in output_of input_of spec_of stage_of anon_row_of rule_of pair_of texts_at tables_at kind_at domains_of address_at prefix_at keeps flag_of number_of tables_fault top_kind whole_fault array_fault table_fault kind_of unknown_fault key_fault below text_test fits items_list is_act is_place is_name least_at text_at rows_of children_of kinds_of kind_word word_of domains range_of cut prefix address address6 address4 number_text load_text load_conf
load_described = refl

-- a text stands for one description
abbrev pub accepted : Conf → Result Conf ConfFault
accepted x = Ok x

pub accepted_once : (x y : Conf) → accepted x ≡ accepted y → x ≡ y
accepted_once x y e = cc
