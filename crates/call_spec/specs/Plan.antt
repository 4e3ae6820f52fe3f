-- What a command runs: nothing, one file to lines, a description with its elements, or generated load.
use Rattle.std.specs.Prelude.{ℕ, List, [], ◌∷◌, Option, Some, None, codes, map}
use Rattle.config_spec.specs.declared.conf.Conf.{Conf}
use Rattle.config_spec.specs.declared.conf.InputConf.{InputConf}
use Rattle.config_spec.specs.declared.conf.StageConf.{StageConf}
use Rattle.config_spec.specs.declared.conf.OutputConf.{OutputConf}
use Rattle.text_spec.specs.declared.element.Element.{Element}
use Rattle.call_spec.specs.Came.{Party, Parties}
use Rattle.call_spec.specs.Load.{load_conf}

pub data Plan : Type 0 where
  Nothing : Plan
  -- the place of the file, and the sink name of its lines
  OneFile : (place out : List ℕ) → Plan
  Described : Conf → List Element → Plan
  -- so many messages of a number, through the description of `generate`
  Generated : (number count : ℕ) → Plan

-- the names of the input and of the output of one file
unfoldable pub in_name : List ℕ
in_name = codes "in"

unfoldable pub out_name : List ℕ
out_name = codes "out"

abbrev pub no_parties : Parties
no_parties = record { inputs = []; log = None; stages = []; outputs = [] }

abbrev pub one_party : List ℕ → List ℕ → Party
one_party name at = record { name = name; at = at }

abbrev pub direct_parties : List ℕ → List ℕ → Parties
direct_parties place out = record { inputs = one_party in_name place ∷ []; log = None; stages = []; outputs = one_party out_name out ∷ [] }

abbrev pub input_party : InputConf → Party
input_party conf = one_party conf.spec.name conf.spec.place

abbrev pub output_party : OutputConf → Party
output_party conf = one_party conf.name conf.path

abbrev pub described_parties : Conf → Parties
described_parties conf = record {
  inputs = map input_party conf.inputs;
  log = conf.order_log;
  stages = map (λ (s : StageConf). s.name) conf.stages;
  outputs = map output_party conf.outputs;
}

abbrev pub parties_of : Plan → Parties
parties_of Nothing = no_parties
parties_of (OneFile place out) = direct_parties place out
parties_of (Described conf rows) = described_parties conf
parties_of (Generated number count) = described_parties load_conf
