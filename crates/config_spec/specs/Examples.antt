-- Known descriptions and texts, to which the definitions are held.
use Rattle.std.specs.Prelude.{◌≡◌, ℕ, List, [], ◌∷◌, codes, map, true, false, Some, None, Ok}
use Rattle.std.specs.Net.Addr.{octets_of}
use Rattle.col_base.specs.declared.base.Transport.TheVariants.{Tcp, Udp, File}
use Rattle.config_spec.specs.declared.domains.DomainRange.{DomainRange}
use Rattle.config_spec.specs.declared.domains.DomainSet.TheVariants.{All, Only, Except}
use Rattle.config_spec.specs.declared.conf.StageWork.TheVariants.{Filter, Anonymise}
use Rattle.config_spec.specs.declared.conf.OutputKind.TheVariants.{Json, Ipfix, View}
use Rattle.config_spec.specs.declared.tables.Test.TheVariants as Is
use Rattle.config_spec.specs.declared.tables.Prefix.{Prefix}
use Rattle.config_spec.specs.Texts.{address, prefix}
use Rattle.config_spec.specs.Domains.{domains}
use Rattle.config_spec.specs.Description.{description}

-- lines of JSON from UDP, with the addresses cut to 24 bits, of some domains
abbrev pub anonymised_lines : List ℕ
anonymised_lines = codes "version = 1\nring = 64\n\n[[input]]\nname = \"in\"\nkind = \"udp\"\nlisten = \"127.0.0.1:4739\"\nstop-after = 100000\n\n[[intermediate]]\nname = \"hide\"\nkind = \"anonymise\"\nfield = [{ id = 8 }, { id = 12 }]\ncut4 = 24\n\n[[output]]\nname = \"lines\"\nkind = \"json\"\npath = \"flows.json\"\nodid-only = \"1,3-5\"\n"

abbrev pub AnonymisesLines : Type 0
AnonymisesLines = description anonymised_lines ≡ Ok (record {
  ring = 64;
  slots = 65536;
  order_log = None;
  elements = [];
  inputs = record {
    spec = record { name = codes "in"; transport = Udp; place = codes "127.0.0.1:4739" };
    stop_after = 100000;
    life = record { template = 1800; options = 1800; late = 1800 };
    idle = 600;
  } ∷ [];
  stages = record {
    name = codes "hide";
    work = Anonymise (record {
      fields = record { pen = 0; id = 8 } ∷ record { pen = 0; id = 12 } ∷ [];
      cut4 = 24;
      cut6 = 128;
      rows = [];
    });
  } ∷ [];
  outputs = record {
    name = codes "lines";
    path = codes "flows.json";
    kind = Json true;
    domains = Only (record { low = 1; high = 1 } ∷ record { low = 3; high = 5 } ∷ []);
  } ∷ [];
})

-- a file and a connection, whose order is logged
abbrev pub two_inputs : List ℕ
two_inputs = codes "version = 1\nslots = 1\norder-log = \"log\"\nelements = [\"a.toml\", \"b.toml\"]\ninput = [{ name = \"a\", kind = \"file\", path = \"a.ipfix\" }, { name = \"b\", kind = \"tcp\", listen = \"[::1]:4739\" }]\noutput = [{ name = \"c\", kind = \"ipfix\", path = \"c.ipfix\", last-template-id = 256, odid-except = \"007\" }]\n"

abbrev pub OrdersTwoInputs : Type 0
OrdersTwoInputs = description two_inputs ≡ Ok (record {
  ring = 256;
  slots = 1;
  order_log = Some (codes "log");
  elements = codes "a.toml" ∷ codes "b.toml" ∷ [];
  inputs = record {
    spec = record { name = codes "a"; transport = File; place = codes "a.ipfix" };
    stop_after = 0;
    life = record { template = 1800; options = 1800; late = 1800 };
    idle = 600;
  } ∷ record {
    spec = record { name = codes "b"; transport = Tcp; place = codes "[::1]:4739" };
    stop_after = 0;
    life = record { template = 1800; options = 1800; late = 1800 };
    idle = 600;
  } ∷ [];
  stages = [];
  outputs = record {
    name = codes "c";
    path = codes "c.ipfix";
    kind = Ipfix 256;
    domains = Except (record { low = 7; high = 7 } ∷ []);
  } ∷ [];
})

abbrev pub prefix4 : ℕ → ℕ → ℕ → ℕ → ℕ → Prefix
prefix4 bits a b c d = record { octets = a ∷ b ∷ c ∷ d ∷ []; bits = bits }

-- the octets of an IPv6 address by its groups
abbrev pub groups : ℕ → ℕ → ℕ → ℕ → ℕ → ℕ → ℕ → ℕ → List ℕ
groups a b c d e f g h = octets_of (a ∷ b ∷ c ∷ d ∷ e ∷ f ∷ g ∷ h ∷ [])

-- each kind of rule, and rows of both kinds of addresses
abbrev pub filtered : List ℕ
filtered = codes "version = 1\n[[input]]\nname = \"in\"\nkind = \"udp\"\nlisten = \"u\"\ntemplate-lifetime = 1\noptions-lifetime = 2\nlate = 3\nidle = 4\n[[intermediate]]\nname = \"f\"\nkind = \"filter\"\ndefault = \"drop\"\nrule = [{ id = 1, test = \"present\", act = \"keep\" }, { pen = 9, id = 2, test = \"equal\", act = \"drop\", value = 5 }, { id = 3, test = \"between\", act = \"keep\", low = 6, high = 7 }, { id = 8, test = \"prefix\", act = \"keep\", value = \"10.1.2.3/16\" }]\n[[intermediate]]\nname = \"g\"\nkind = \"anonymise\"\nfield = [{ pen = 9, id = 4 }]\ncut6 = 0\nrow = [{ from = \"10.0.0.0/8\", to = \"192.0.0.0\" }, { from = \"::/0\", to = \"1::\" }]\n[[output]]\nname = \"v\"\nkind = \"view\"\npath = \"p\"\n"

abbrev pub FiltersDomains : Type 0
FiltersDomains = description filtered ≡ Ok (record {
  ring = 256;
  slots = 65536;
  order_log = None;
  elements = [];
  inputs = record {
    spec = record { name = codes "in"; transport = Udp; place = codes "u" };
    stop_after = 0;
    life = record { template = 1; options = 2; late = 3 };
    idle = 4;
  } ∷ [];
  stages = record {
    name = codes "f";
    work = Filter (record {
      rules = record { pen = 0; id = 1; test = Is.Present; keep = true }
          ∷ record { pen = 9; id = 2; test = Is.Equal 5; keep = false }
          ∷ record { pen = 0; id = 3; test = Is.Between 6 7; keep = true }
          ∷ record { pen = 0; id = 8; test = Is.Prefix (prefix4 16 10 1 0 0); keep = true }
          ∷ [];
      default_keep = false;
    });
  } ∷ record {
    name = codes "g";
    work = Anonymise (record {
      fields = record { pen = 9; id = 4 } ∷ [];
      cut4 = 32;
      cut6 = 0;
      rows = record { from = prefix4 8 10 0 0 0; to = 192 ∷ 0 ∷ 0 ∷ 0 ∷ [] }
          ∷ record { from = record { octets = groups 0 0 0 0 0 0 0 0; bits = 0 }; to = groups 1 0 0 0 0 0 0 0 }
          ∷ [];
    });
  } ∷ [];
  outputs = record { name = codes "v"; path = codes "p"; kind = View; domains = All } ∷ [];
})

-- address texts with their octets
abbrev pub AddressesHaveOctets : Type 0
AddressesHaveOctets = map address (codes "0.0.0.0" ∷ codes "255.9.10.99" ∷ codes "::" ∷ codes "::1" ∷ codes "1::" ∷ codes "2001:db8::Ff00:42"
    ∷ codes "1:2:3:4:5:6:7:8" ∷ codes "1:2:3:4:5:6:7::" ∷ codes "1::3:4:5:6:7:8" ∷ codes "1:0::" ∷ [])
    ≡ map (λ octets. Some octets) ((0 ∷ 0 ∷ 0 ∷ 0 ∷ []) ∷ (255 ∷ 9 ∷ 10 ∷ 99 ∷ []) ∷ groups 0 0 0 0 0 0 0 0 ∷ groups 0 0 0 0 0 0 0 1 ∷ groups 1 0 0 0 0 0 0 0
    ∷ groups 8193 3512 0 0 0 0 65280 66 ∷ groups 1 2 3 4 5 6 7 8 ∷ groups 1 2 3 4 5 6 7 0 ∷ groups 1 0 3 4 5 6 7 8 ∷ groups 1 0 0 0 0 0 0 0 ∷ [])

-- texts that are no addresses
abbrev pub other_texts : List (List ℕ)
other_texts = [] ∷ codes "10.0.0" ∷ codes "10.0.0.256" ∷ codes "10.0.0.01" ∷ codes "10.0.0.1 " ∷ codes "10.0.0.1.2" ∷ codes "1:2:3:4:5:6:7:8:9" ∷ codes "1:2:3:4:5:6:7:8::"
    ∷ codes "1::2::3" ∷ codes "12345::" ∷ codes "::10.0.0.1" ∷ codes ":::" ∷ codes "1:2:3:4:5:6:7" ∷ codes "::g" ∷ codes "[::]" ∷ []

abbrev pub OthersAreNoAddresses : Type 0
OthersAreNoAddresses = map address other_texts ≡ map (λ other. None) other_texts

abbrev pub PrefixesAreCut : Type 0
PrefixesAreCut = map prefix (codes "10.1.2.3/32" ∷ codes "10.1.2.3/31" ∷ codes "10.255.2.3/9" ∷ codes "10.1.2.3/08" ∷ codes "10.1.2.3/0" ∷ codes "2001:db8::1/20" ∷ codes "::1/128" ∷ [])
    ≡ map (λ found. Some found) (prefix4 32 10 1 2 3 ∷ prefix4 31 10 1 2 2 ∷ prefix4 9 10 128 0 0 ∷ prefix4 8 10 0 0 0 ∷ prefix4 0 0 0 0 0
    ∷ record { octets = groups 8193 0 0 0 0 0 0 0; bits = 20 } ∷ record { octets = groups 0 0 0 0 0 0 0 1; bits = 128 } ∷ [])

-- texts that are no prefixes
abbrev pub no_prefixes : List (List ℕ)
no_prefixes = codes "10.1.2.3/33" ∷ codes "10.1.2.3/" ∷ codes "10.1.2.3" ∷ codes "/8" ∷ codes "10.1.2.3/8/8" ∷ codes "10.1.2.3/+8" ∷ codes "::/129" ∷ []

abbrev pub OthersAreNoPrefixes : Type 0
OthersAreNoPrefixes = map prefix no_prefixes ≡ map (λ other. None) no_prefixes

abbrev pub run : ℕ → ℕ → DomainRange
run low high = record { low = low; high = high }

abbrev pub domain_texts : List (List ℕ)
domain_texts = codes "0" ∷ codes "1,3-5,4294967295" ∷ codes "007-08" ∷ codes "5-5" ∷ [] ∷ codes "4294967296" ∷ codes "5-4" ∷ codes "1, 2" ∷ codes "1,"
    ∷ codes "1-2-3" ∷ codes "-1" ∷ codes "+1" ∷ []

abbrev pub DomainTextsAreRanges : Type 0
DomainTextsAreRanges = map domains domain_texts ≡ Some (run 0 0 ∷ []) ∷ Some (run 1 1 ∷ run 3 5 ∷ run 4294967295 4294967295 ∷ []) ∷ Some (run 7 8 ∷ [])
    ∷ Some (run 5 5 ∷ []) ∷ None ∷ None ∷ None ∷ None ∷ None ∷ None ∷ None ∷ None ∷ []
