-- A run over one file into two outputs by domains: of domains 1 and 3 to 5, and of all but 1.
use Rattle.std.specs.Prelude.{ℕ, List, [], ◌∷◌, None, true}
use Rattle.config_spec.specs.declared.conf.Conf.{Conf}
use Rattle.config_spec.specs.declared.conf.OutputKind.TheVariants.{Json}
use Rattle.config_spec.specs.declared.domains.DomainSet.TheVariants.{Only, Except}
use Rattle.result_spec.specs.Examples.{output}
use Rattle.result_spec.specs.TwoFiles.{a_file}

abbrev pub two_outputs : Conf
two_outputs = record {
  ring = 256;
  slots = 65536;
  order_log = None;
  elements = [];
  inputs = a_file ∷ [];
  stages = [];
  outputs = output (Json true) (Only (record { low = 1; high = 1 } ∷ record { low = 3; high = 5 } ∷ [])) ∷ output (Json true) (Except (record { low = 1; high = 1 } ∷ [])) ∷ [];
}

abbrev pub five_arrivals : List ℕ
five_arrivals = 0 ∷ 0 ∷ 0 ∷ 0 ∷ 0 ∷ []
