-- The description of `generate`.
use Rattle.std.specs.Prelude.{ℕ, true, false, List, [], ◌∷◌, None, codes}
use Rattle.col_base.specs.declared.base.Transport.TheVariants.{Tcp}
use Rattle.config_spec.specs.declared.conf.Conf.{Conf}
use Rattle.config_spec.specs.declared.conf.OutputKind.TheVariants.{Json, Ipfix, View}
use Rattle.config_spec.specs.declared.conf.StageWork.TheVariants.{Filter}
use Rattle.config_spec.specs.declared.domains.DomainSet.TheVariants.{All}
use Rattle.config_spec.specs.declared.tables.Test.TheVariants as Is

-- A connection `gen`; a filter `half`, which drops the records whose element 4 lies between 0 and 127 and keeps the rest;
-- and an output of each kind. What isn't named is as in a description that leaves it out; nothing is opened.
unfoldable pub load_conf : Conf
load_conf = record {
  ring = 256;
  slots = 65536;
  order_log = None;
  elements = [];
  inputs = record {
    spec = record { name = codes "gen"; transport = Tcp; place = codes "gen" };
    stop_after = 0;
    life = record { template = 1800; options = 1800; late = 1800 };
    idle = 600;
  } ∷ [];
  stages = record {
    name = codes "half";
    work = Filter (record { rules = record { pen = 0; id = 4; test = Is.Between 0 127; keep = false } ∷ []; default_keep = true });
  } ∷ [];
  outputs = record { name = codes "json"; path = codes "json"; kind = Json true; domains = All }
      ∷ record { name = codes "ipfix"; path = codes "ipfix"; kind = Ipfix 65535; domains = All }
      ∷ record { name = codes "view"; path = codes "view"; kind = View; domains = All }
      ∷ [];
}

-- as an operator would write it
unfoldable pub load_text : List ℕ
load_text = codes "version = 1\n\n[[input]]\nname = \"gen\"\nkind = \"tcp\"\nlisten = \"gen\"\n\n[[intermediate]]\nname = \"half\"\nkind = \"filter\"\nrule = [{ id = 4, test = \"between\", low = 0, high = 127, act = \"drop\" }]\n\n[[output]]\nname = \"json\"\nkind = \"json\"\npath = \"json\"\n\n[[output]]\nname = \"ipfix\"\nkind = \"ipfix\"\npath = \"ipfix\"\n\n[[output]]\nname = \"view\"\nkind = \"view\"\npath = \"view\"\n"
