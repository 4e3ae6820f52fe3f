-- A run over one file into another, whose template IDs have an end.
use Rattle.std.specs.Prelude.{ℕ, List, [], ◌∷◌, ◌++◌, true, false}
use Rattle.col_base.specs.declared.base.Transport.TheVariants.{File}
use Rattle.wire_spec.specs.Examples.{first_template, second_template}
use Rattle.config_spec.specs.declared.conf.Conf.{Conf}
use Rattle.config_spec.specs.declared.conf.OutputKind.TheVariants.{Ipfix}
use Rattle.config_spec.specs.declared.domains.DomainSet.TheVariants.{All}
use Rattle.arrival_spec.specs.declared.event.Scripted.{Scripted}
use Rattle.run_spec.specs.Examples.{stream_of}
use Rattle.run_spec.specs.Work.{Item}
use Rattle.run_spec.specs.Work.Item.{Note}
use Rattle.result_spec.specs.Examples.{flow, in_a, output}
use Rattle.result_spec.specs.TwoFiles.{one_file}

-- one file, and another whose template IDs go up to this one
abbrev pub limited : ℕ → Conf
limited last = record one_file { outputs = output (Ipfix last) All ∷ [] }

-- the file has two messages, each with a definition of template 256 of its own
abbrev pub one_source : List (List Scripted)
one_source = stream_of (first_template ++ second_template) ∷ []

abbrev pub four_arrivals : List ℕ
four_arrivals = 0 ∷ 0 ∷ 0 ∷ 0 ∷ []

-- the items of both messages
abbrev pub both_flows : List Item
both_flows = Note in_a File true ∷ flow in_a 1 8 1 ∷ flow in_a 1 12 2 ∷ Note in_a File false ∷ []
