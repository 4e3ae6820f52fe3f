-- What a description is like that has no fault.
use Rattle.std.specs.Prelude.{◌≡◌, ℕ, List, Ok}
use Rattle.config_spec.specs.declared.conf.Conf.{Conf}
use Rattle.config_spec.specs.Form.{IsConf, HasParts}
use Rattle.config_spec.specs.Description.{description}

-- its values have their ranges, lengths and forms
abbrev pub KeepForm : Type 0
KeepForm = (octets : List ℕ) (conf : Conf) → description octets ≡ Ok conf → IsConf conf

-- it has an input and an output, and an order log exactly where it needs one
abbrev pub HaveParts : Type 0
HaveParts = (octets : List ℕ) (conf : Conf) → description octets ≡ Ok conf → HasParts conf
