-- A file with three source addresses, and an anonymiser between it and its lines.
use Rattle.std.specs.Prelude.{ℕ, List, [], ◌∷◌, ◌++◌, true}
use Rattle.col_base.specs.declared.base.Kind.TheVariants.{Template}
use Rattle.wire_spec.specs.Content.{Message}
use Rattle.wire_spec.specs.Content.Touch.{Define}
use Rattle.wire_spec.specs.Content.Part.{Touches, Body}
use Rattle.config_spec.specs.declared.conf.Conf.{Conf}
use Rattle.config_spec.specs.declared.conf.OutputKind.TheVariants.{Json}
use Rattle.config_spec.specs.declared.conf.StageWork.TheVariants.{Anonymise}
use Rattle.config_spec.specs.declared.domains.DomainSet.TheVariants.{All}
use Rattle.config_spec.specs.declared.tables.AnonRow.{AnonRow}
use Rattle.text_spec.specs.Examples.{line}
use Rattle.result_spec.specs.Examples.{output}
use Rattle.result_spec.specs.TwoFiles.{one_file}

-- a template of a source address, and the records 10.1.2.3, 10.9.8.7 and 11.0.0.1
abbrev pub three_addresses : List ℕ
three_addresses = 0 ∷ 10 ∷ 0 ∷ 44 ∷ 0 ∷ 0 ∷ 0 ∷ 100 ∷ 0 ∷ 0 ∷ 0 ∷ 0 ∷ 0 ∷ 0 ∷ 0 ∷ 1 ∷ 0 ∷ 2 ∷ 0 ∷ 12 ∷ 1 ∷ 0 ∷ 0 ∷ 1 ∷ 0 ∷ 8 ∷ 0 ∷ 4
    ∷ 1 ∷ 0 ∷ 0 ∷ 16 ∷ 10 ∷ 1 ∷ 2 ∷ 3 ∷ 10 ∷ 9 ∷ 8 ∷ 7 ∷ 11 ∷ 0 ∷ 0 ∷ 1 ∷ []

abbrev pub three_addresses_message : Message
three_addresses_message = record {
  export = 100;
  sequence = 0;
  domain = 1;
  parts = Touches (Define 256 (record { kind = Template; scope = 0; fields = record { pen = 0; id = 8; len = 4 } ∷ [] }) ∷ [])
      ∷ Body 256 (10 ∷ 1 ∷ 2 ∷ 3 ∷ 10 ∷ 9 ∷ 8 ∷ 7 ∷ 11 ∷ 0 ∷ 0 ∷ 1 ∷ []) ∷ [];
}

-- rows 10.0.0.0/8 to 192.0.0.0 and 10.1.0.0/16 to 198.51.0.0
abbrev pub wide_row : AnonRow
wide_row = record { from = record { octets = 10 ∷ 0 ∷ 0 ∷ 0 ∷ []; bits = 8 }; to = 192 ∷ 0 ∷ 0 ∷ 0 ∷ [] }

abbrev pub narrow_row : AnonRow
narrow_row = record { from = record { octets = 10 ∷ 1 ∷ 0 ∷ 0 ∷ []; bits = 16 }; to = 198 ∷ 51 ∷ 0 ∷ 0 ∷ [] }

-- one file, and its lines behind an anonymiser of source addresses: so many bits stay where none of these rows agrees
abbrev pub hiding : ℕ → List AnonRow → Conf
hiding cut rows = record one_file {
  stages = record { name = []; work = Anonymise (record { fields = record { pen = 0; id = 8 } ∷ []; cut4 = cut; cut6 = 128; rows = rows }) } ∷ [];
  outputs = output (Json true) All ∷ [];
}

-- 198.51.2.3, 192.9.8.7 and 11.0.0.1 by the rows, and 10.1.2.0, 10.9.8.0 and 11.0.0.0 where 24 bits stay
abbrev pub replaced_lines : List ℕ
replaced_lines = line "{\"@type\":\"ipfix.entry\",\"iana:sourceIPv4Address\":\"198.51.2.3\"}"
    ++ line "{\"@type\":\"ipfix.entry\",\"iana:sourceIPv4Address\":\"192.9.8.7\"}"
    ++ line "{\"@type\":\"ipfix.entry\",\"iana:sourceIPv4Address\":\"11.0.0.1\"}"

abbrev pub cut_lines : List ℕ
cut_lines = line "{\"@type\":\"ipfix.entry\",\"iana:sourceIPv4Address\":\"10.1.2.0\"}"
    ++ line "{\"@type\":\"ipfix.entry\",\"iana:sourceIPv4Address\":\"10.9.8.0\"}"
    ++ line "{\"@type\":\"ipfix.entry\",\"iana:sourceIPv4Address\":\"11.0.0.0\"}"
