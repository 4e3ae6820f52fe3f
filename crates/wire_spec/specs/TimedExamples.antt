-- Example messages of several export times and domains, and what they say. This file is written by tools/examples.py.
use Rattle.std.specs.Prelude.{ℕ, List, [], ◌∷◌}
use Rattle.col_base.specs.declared.base.Kind.TheVariants.{Template}
use Rattle.wire_spec.specs.Content.{Message}
use Rattle.wire_spec.specs.Content.Touch.{Define}
use Rattle.wire_spec.specs.Content.Part.{Touches, Body}

-- at 100 template 256 is a source address
abbrev pub source_at_100 : List ℕ
source_at_100 = 0 ∷ 10 ∷ 0 ∷ 28 ∷ 0 ∷ 0 ∷ 0 ∷ 100 ∷ 0 ∷ 0 ∷ 0 ∷ 0 ∷ 0 ∷ 0 ∷ 0 ∷ 1 ∷ 0 ∷ 2 ∷ 0 ∷ 12 ∷ 1 ∷ 0 ∷ 0 ∷ 1 ∷ 0 ∷ 8 ∷ 0 ∷ 4 ∷ []

abbrev pub source_at_100_message : Message
source_at_100_message = record { export = 100; sequence = 0; domain = 1; parts = ((Touches ((Define 256 (record { kind = Template; scope = 0; fields = ((record { pen = 0; id = 8; len = 4 }) ∷ []) })) ∷ [])) ∷ []) }

-- at 200 it is a destination address
abbrev pub destination_at_200 : List ℕ
destination_at_200 = 0 ∷ 10 ∷ 0 ∷ 28 ∷ 0 ∷ 0 ∷ 0 ∷ 200 ∷ 0 ∷ 0 ∷ 0 ∷ 0 ∷ 0 ∷ 0 ∷ 0 ∷ 1 ∷ 0 ∷ 2 ∷ 0 ∷ 12 ∷ 1 ∷ 0 ∷ 0 ∷ 1 ∷ 0 ∷ 12 ∷ 0 ∷ 4 ∷ []

abbrev pub destination_at_200_message : Message
destination_at_200_message = record { export = 200; sequence = 0; domain = 1; parts = ((Touches ((Define 256 (record { kind = Template; scope = 0; fields = ((record { pen = 0; id = 12; len = 4 }) ∷ []) })) ∷ [])) ∷ []) }

-- at 120 it is the address of a next hop
abbrev pub next_hop_at_120 : List ℕ
next_hop_at_120 = 0 ∷ 10 ∷ 0 ∷ 28 ∷ 0 ∷ 0 ∷ 0 ∷ 120 ∷ 0 ∷ 0 ∷ 0 ∷ 0 ∷ 0 ∷ 0 ∷ 0 ∷ 1 ∷ 0 ∷ 2 ∷ 0 ∷ 12 ∷ 1 ∷ 0 ∷ 0 ∷ 1 ∷ 0 ∷ 15 ∷ 0 ∷ 4 ∷ []

abbrev pub next_hop_at_120_message : Message
next_hop_at_120_message = record { export = 120; sequence = 0; domain = 1; parts = ((Touches ((Define 256 (record { kind = Template; scope = 0; fields = ((record { pen = 0; id = 15; len = 4 }) ∷ []) })) ∷ [])) ∷ []) }

-- records of template 256
abbrev pub data_at_150 : List ℕ
data_at_150 = 0 ∷ 10 ∷ 0 ∷ 24 ∷ 0 ∷ 0 ∷ 0 ∷ 150 ∷ 0 ∷ 0 ∷ 0 ∷ 0 ∷ 0 ∷ 0 ∷ 0 ∷ 1 ∷ 1 ∷ 0 ∷ 0 ∷ 8 ∷ 10 ∷ 0 ∷ 0 ∷ 1 ∷ []

abbrev pub data_at_150_message : Message
data_at_150_message = record { export = 150; sequence = 0; domain = 1; parts = ((Body 256 (10 ∷ 0 ∷ 0 ∷ 1 ∷ [])) ∷ []) }

abbrev pub data_at_199 : List ℕ
data_at_199 = 0 ∷ 10 ∷ 0 ∷ 24 ∷ 0 ∷ 0 ∷ 0 ∷ 199 ∷ 0 ∷ 0 ∷ 0 ∷ 1 ∷ 0 ∷ 0 ∷ 0 ∷ 1 ∷ 1 ∷ 0 ∷ 0 ∷ 8 ∷ 10 ∷ 0 ∷ 0 ∷ 1 ∷ []

abbrev pub data_at_199_message : Message
data_at_199_message = record { export = 199; sequence = 1; domain = 1; parts = ((Body 256 (10 ∷ 0 ∷ 0 ∷ 1 ∷ [])) ∷ []) }

abbrev pub data_at_200 : List ℕ
data_at_200 = 0 ∷ 10 ∷ 0 ∷ 24 ∷ 0 ∷ 0 ∷ 0 ∷ 200 ∷ 0 ∷ 0 ∷ 0 ∷ 2 ∷ 0 ∷ 0 ∷ 0 ∷ 1 ∷ 1 ∷ 0 ∷ 0 ∷ 8 ∷ 10 ∷ 0 ∷ 0 ∷ 1 ∷ []

abbrev pub data_at_200_message : Message
data_at_200_message = record { export = 200; sequence = 2; domain = 1; parts = ((Body 256 (10 ∷ 0 ∷ 0 ∷ 1 ∷ [])) ∷ []) }

abbrev pub data_at_119 : List ℕ
data_at_119 = 0 ∷ 10 ∷ 0 ∷ 24 ∷ 0 ∷ 0 ∷ 0 ∷ 119 ∷ 0 ∷ 0 ∷ 0 ∷ 3 ∷ 0 ∷ 0 ∷ 0 ∷ 1 ∷ 1 ∷ 0 ∷ 0 ∷ 8 ∷ 10 ∷ 0 ∷ 0 ∷ 1 ∷ []

abbrev pub data_at_119_message : Message
data_at_119_message = record { export = 119; sequence = 3; domain = 1; parts = ((Body 256 (10 ∷ 0 ∷ 0 ∷ 1 ∷ [])) ∷ []) }

abbrev pub data_at_99 : List ℕ
data_at_99 = 0 ∷ 10 ∷ 0 ∷ 24 ∷ 0 ∷ 0 ∷ 0 ∷ 99 ∷ 0 ∷ 0 ∷ 0 ∷ 4 ∷ 0 ∷ 0 ∷ 0 ∷ 1 ∷ 1 ∷ 0 ∷ 0 ∷ 8 ∷ 10 ∷ 0 ∷ 0 ∷ 1 ∷ []

abbrev pub data_at_99_message : Message
data_at_99_message = record { export = 99; sequence = 4; domain = 1; parts = ((Body 256 (10 ∷ 0 ∷ 0 ∷ 1 ∷ [])) ∷ []) }

-- records 1,800 seconds after the template at 100, and one second later
abbrev pub data_at_1900 : List ℕ
data_at_1900 = 0 ∷ 10 ∷ 0 ∷ 24 ∷ 0 ∷ 0 ∷ 7 ∷ 108 ∷ 0 ∷ 0 ∷ 0 ∷ 0 ∷ 0 ∷ 0 ∷ 0 ∷ 1 ∷ 1 ∷ 0 ∷ 0 ∷ 8 ∷ 10 ∷ 0 ∷ 0 ∷ 1 ∷ []

abbrev pub data_at_1900_message : Message
data_at_1900_message = record { export = 1900; sequence = 0; domain = 1; parts = ((Body 256 (10 ∷ 0 ∷ 0 ∷ 1 ∷ [])) ∷ []) }

abbrev pub data_at_1901 : List ℕ
data_at_1901 = 0 ∷ 10 ∷ 0 ∷ 24 ∷ 0 ∷ 0 ∷ 7 ∷ 109 ∷ 0 ∷ 0 ∷ 0 ∷ 1 ∷ 0 ∷ 0 ∷ 0 ∷ 1 ∷ 1 ∷ 0 ∷ 0 ∷ 8 ∷ 10 ∷ 0 ∷ 0 ∷ 1 ∷ []

abbrev pub data_at_1901_message : Message
data_at_1901_message = record { export = 1901; sequence = 1; domain = 1; parts = ((Body 256 (10 ∷ 0 ∷ 0 ∷ 1 ∷ [])) ∷ []) }

-- at 5000 template 256 is a source address
abbrev pub source_at_5000 : List ℕ
source_at_5000 = 0 ∷ 10 ∷ 0 ∷ 28 ∷ 0 ∷ 0 ∷ 19 ∷ 136 ∷ 0 ∷ 0 ∷ 0 ∷ 0 ∷ 0 ∷ 0 ∷ 0 ∷ 1 ∷ 0 ∷ 2 ∷ 0 ∷ 12 ∷ 1 ∷ 0 ∷ 0 ∷ 1 ∷ 0 ∷ 8 ∷ 0 ∷ 4 ∷ []

abbrev pub source_at_5000_message : Message
source_at_5000_message = record { export = 5000; sequence = 0; domain = 1; parts = ((Touches ((Define 256 (record { kind = Template; scope = 0; fields = ((record { pen = 0; id = 8; len = 4 }) ∷ []) })) ∷ [])) ∷ []) }

-- 1,800 seconds before it is a destination address, with a record
abbrev pub flow_at_3200 : List ℕ
flow_at_3200 = 0 ∷ 10 ∷ 0 ∷ 36 ∷ 0 ∷ 0 ∷ 12 ∷ 128 ∷ 0 ∷ 0 ∷ 0 ∷ 0 ∷ 0 ∷ 0 ∷ 0 ∷ 1 ∷ 0 ∷ 2 ∷ 0 ∷ 12 ∷ 1 ∷ 0 ∷ 0 ∷ 1 ∷ 0 ∷ 12 ∷ 0 ∷ 4 ∷ 1 ∷ 0 ∷ 0 ∷ 8 ∷ 10 ∷ 0 ∷ 0 ∷ 2 ∷ []

abbrev pub flow_at_3200_message : Message
flow_at_3200_message = record { export = 3200; sequence = 0; domain = 1; parts = ((Touches ((Define 256 (record { kind = Template; scope = 0; fields = ((record { pen = 0; id = 12; len = 4 }) ∷ []) })) ∷ [])) ∷ (Body 256 (10 ∷ 0 ∷ 0 ∷ 2 ∷ [])) ∷ []) }

-- one second before that template 257 is a source address
abbrev pub other_at_3199 : List ℕ
other_at_3199 = 0 ∷ 10 ∷ 0 ∷ 28 ∷ 0 ∷ 0 ∷ 12 ∷ 127 ∷ 0 ∷ 0 ∷ 0 ∷ 1 ∷ 0 ∷ 0 ∷ 0 ∷ 1 ∷ 0 ∷ 2 ∷ 0 ∷ 12 ∷ 1 ∷ 1 ∷ 0 ∷ 1 ∷ 0 ∷ 8 ∷ 0 ∷ 4 ∷ []

abbrev pub other_at_3199_message : Message
other_at_3199_message = record { export = 3199; sequence = 1; domain = 1; parts = ((Touches ((Define 257 (record { kind = Template; scope = 0; fields = ((record { pen = 0; id = 8; len = 4 }) ∷ []) })) ∷ [])) ∷ []) }

-- a record of template 257
abbrev pub other_data_at_3200 : List ℕ
other_data_at_3200 = 0 ∷ 10 ∷ 0 ∷ 24 ∷ 0 ∷ 0 ∷ 12 ∷ 128 ∷ 0 ∷ 0 ∷ 0 ∷ 1 ∷ 0 ∷ 0 ∷ 0 ∷ 1 ∷ 1 ∷ 1 ∷ 0 ∷ 8 ∷ 10 ∷ 0 ∷ 0 ∷ 1 ∷ []

abbrev pub other_data_at_3200_message : Message
other_data_at_3200_message = record { export = 3200; sequence = 1; domain = 1; parts = ((Body 257 (10 ∷ 0 ∷ 0 ∷ 1 ∷ [])) ∷ []) }

-- a template of a source address, and one record, in domains 2 and 4
abbrev pub in_domain_2 : List ℕ
in_domain_2 = 0 ∷ 10 ∷ 0 ∷ 36 ∷ 0 ∷ 0 ∷ 0 ∷ 100 ∷ 0 ∷ 0 ∷ 0 ∷ 0 ∷ 0 ∷ 0 ∷ 0 ∷ 2 ∷ 0 ∷ 2 ∷ 0 ∷ 12 ∷ 1 ∷ 0 ∷ 0 ∷ 1 ∷ 0 ∷ 8 ∷ 0 ∷ 4 ∷ 1 ∷ 0 ∷ 0 ∷ 8 ∷ 10 ∷ 0 ∷ 0 ∷ 2 ∷ []

abbrev pub in_domain_2_message : Message
in_domain_2_message = record { export = 100; sequence = 0; domain = 2; parts = ((Touches ((Define 256 (record { kind = Template; scope = 0; fields = ((record { pen = 0; id = 8; len = 4 }) ∷ []) })) ∷ [])) ∷ (Body 256 (10 ∷ 0 ∷ 0 ∷ 2 ∷ [])) ∷ []) }

abbrev pub in_domain_4 : List ℕ
in_domain_4 = 0 ∷ 10 ∷ 0 ∷ 36 ∷ 0 ∷ 0 ∷ 0 ∷ 100 ∷ 0 ∷ 0 ∷ 0 ∷ 0 ∷ 0 ∷ 0 ∷ 0 ∷ 4 ∷ 0 ∷ 2 ∷ 0 ∷ 12 ∷ 1 ∷ 0 ∷ 0 ∷ 1 ∷ 0 ∷ 8 ∷ 0 ∷ 4 ∷ 1 ∷ 0 ∷ 0 ∷ 8 ∷ 10 ∷ 0 ∷ 0 ∷ 4 ∷ []

abbrev pub in_domain_4_message : Message
in_domain_4_message = record { export = 100; sequence = 0; domain = 4; parts = ((Touches ((Define 256 (record { kind = Template; scope = 0; fields = ((record { pen = 0; id = 8; len = 4 }) ∷ []) })) ∷ [])) ∷ (Body 256 (10 ∷ 0 ∷ 0 ∷ 4 ∷ [])) ∷ []) }
