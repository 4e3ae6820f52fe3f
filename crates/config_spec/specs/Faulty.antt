-- Known descriptions with a fault, to which the definition is held.
use Rattle.std.specs.Prelude.{◌≡◌, ℕ, List, [], ◌∷◌, ◌++◌, codes, map, Result, Ok, Err}
use Rattle.config_spec.specs.declared.conf.Conf.{Conf}
use Rattle.config_spec.specs.declared.fault.ConfFault.{ConfFault}
use Rattle.config_spec.specs.First.{fault_text}
use Rattle.config_spec.specs.Description.{description}

abbrev pub printed : Result Conf ConfFault → List ℕ
printed (Ok conf) = codes "ok"
printed (Err fault) = fault_text fault

-- a text and what is printed of it
abbrev pub Told : Type 0
Told = List ℕ × List ℕ

abbrev pub HaveFaults : List Told → Type 0
HaveFaults told = map (λ t. printed (description t.0)) told ≡ map (λ t. t.1) told

abbrev pub text : List ℕ → List ℕ → Told
text octets fault = (octets, fault)

-- a description of these tables behind what every description has
abbrev pub tables : List ℕ → List ℕ → Told
tables octets fault = (codes "version = 1\n" ++ octets, fault)

abbrev pub input : List ℕ
input = codes "[[input]]\nname = \"in\"\nkind = \"file\"\npath = \"p\"\n"

abbrev pub output : List ℕ
output = codes "[[output]]\nname = \"out\"\nkind = \"json\"\npath = \"q\"\n"

abbrev pub top_faults : List Told
top_faults = text (codes "version") (codes "not TOML")
    ∷ text (255 ∷ []) (codes "not TOML")
    ∷ text [] (codes "missing version")
    ∷ text (codes "version = 2") (codes "out of range version")
    ∷ text (codes "version = \"1\"") (codes "wrong type version")
    ∷ tables (codes "ring = 0\n" ++ input ++ output) (codes "out of range ring")
    ∷ tables (codes "ring = 4097\n" ++ input ++ output) (codes "out of range ring")
    ∷ tables (codes "slots = 65537\n" ++ input ++ output) (codes "out of range slots")
    ∷ tables (codes "order-log = \"l\"\n" ++ input ++ output) (codes "unknown key order-log")
    ∷ tables (codes "elements = [1]\n" ++ input ++ output) (codes "wrong type elements")
    ∷ tables (codes "elements = [\"\"]\n" ++ input ++ output) (codes "out of range elements")
    ∷ tables (codes "input = [1]\n") (codes "wrong type input")
    ∷ tables (codes "b = 1\na = 1\n" ++ input ++ output) (codes "unknown key a")
    ∷ tables (input ++ output) (codes "ok")
    ∷ []

abbrev pub kind_faults : List Told
kind_faults = tables (input ++ codes "colour = 1\n" ++ output) (codes "unknown key input.0.colour")
    ∷ tables (codes "[[input]]\nname = 5\nkind = \"file\"\n" ++ output) (codes "wrong type input.0.name")
    ∷ tables (codes "[[input]]\nname = \"in\"\nkind = \"sctp\"\n" ++ output) (codes "unknown plugin input.0.kind")
    ∷ tables (codes "[[input]]\nname = \"in\"\nkind = 1\n" ++ output) (codes "wrong type input.0.kind")
    ∷ tables (codes "[[input]]\nname = \"in\"\n" ++ output) (codes "missing input.0.kind")
    ∷ tables (codes "[[input]]\nname = 5\nkind = \"file\"\ncolour = 1\n" ++ output) (codes "unknown key input.0.colour")
    ∷ tables (codes "[[input]]\nkind = \"sctp\"\ncolour = 1\n" ++ output) (codes "unknown plugin input.0.kind")
    ∷ []

abbrev pub input_faults : List Told
input_faults = tables (codes "[[input]]\nname = \"order-log\"\nkind = \"file\"\n" ++ output) (codes "out of range input.0.name")
    ∷ tables (input ++ codes "late = 1\n" ++ output) (codes "unknown key input.0.late")
    ∷ []

abbrev pub output_faults : List Told
output_faults = tables (input ++ output ++ codes "odid-only = \"1\"\nodid-except = \"2\"\n") (codes "out of range output.0.odid-except")
    ∷ tables (input ++ output ++ codes "odid-only = \"2-1\"\n") (codes "out of range output.0.odid-only")
    ∷ tables (input ++ output ++ codes "options = 1\n") (codes "wrong type output.0.options")
    ∷ []

abbrev pub stage : List ℕ
stage = codes "[[intermediate]]\nname = \"s\"\nkind = \"anonymise\"\n"

abbrev pub rule : List ℕ → List ℕ
rule keys = input ++ output ++ codes "[[intermediate]]\nname = \"s\"\nkind = \"filter\"\nrule = [{ id = 1, act = \"keep\"" ++ keys ++ codes " }]\n"

abbrev pub field_faults : List Told
field_faults = tables (input ++ output ++ stage) (codes "missing intermediate.0.field")
    ∷ tables (input ++ output ++ stage ++ codes "field = []\n") (codes "out of range intermediate.0.field")
    ∷ tables (input ++ output ++ stage ++ codes "field = [{ id = 32768 }]\n") (codes "out of range intermediate.0.field.0.id")
    ∷ tables (input ++ output ++ stage ++ codes "field = [{ id = 8 }]\ncut4 = 33\n") (codes "out of range intermediate.0.cut4")
    ∷ []

abbrev pub address_faults : List Told
address_faults = tables (input ++ output ++ stage ++ codes "field = [{ id = 8 }]\nrow = [{ from = \"::/0\", to = \"10.0.0.0\" }]\n") (codes "out of range intermediate.0.row.0.to")
    ∷ tables (rule (codes ", test = \"prefix\", value = \"10.0.0.0\"")) (codes "out of range intermediate.0.rule.0.value")
    ∷ []

abbrev pub rule_faults : List Told
rule_faults = tables (rule (codes ", test = \"odd\"")) (codes "out of range intermediate.0.rule.0.test")
    ∷ tables (rule (codes "")) (codes "missing intermediate.0.rule.0.test")
    ∷ tables (rule (codes ", test = \"present\", value = 1")) (codes "unknown key intermediate.0.rule.0.value")
    ∷ []

abbrev pub value_faults : List Told
value_faults = tables (rule (codes ", test = \"equal\", value = -1")) (codes "out of range intermediate.0.rule.0.value")
    ∷ tables (rule (codes ", test = \"between\", low = 2, high = 1")) (codes "out of range intermediate.0.rule.0.high")
    ∷ []

abbrev pub second : List ℕ
second = codes "[[input]]\nname = \"in2\"\nkind = \"file\"\npath = \"p\"\n"

-- an output that writes where the first one does
abbrev pub same_path : List ℕ
same_path = codes "[[output]]\nname = \"o2\"\nkind = \"view\"\npath = \"q\"\n"

-- an anonymiser with a prefix twice
abbrev pub same_prefix : List ℕ
same_prefix = stage ++ codes "field = [{ id = 8 }]\nrow = [{ from = \"::/0\", to = \"::\" }, { from = \"::1/0\", to = \"::\" }]\n"

abbrev pub prefix_faults : List Told
prefix_faults = tables (input ++ output ++ stage ++ codes "field = [{ id = 8 }]\nrow = [{ from = \"10.1.0.0/8\", to = \"1.0.0.0\" }, { from = \"10.0.0.0/9\", to = \"1.0.0.0\" }, { from = \"a00::/8\", to = \"::\" }, { from = \"10.2.0.0/08\", to = \"1.0.0.0\" }]\n") (codes "duplicate name 10.2.0.0/08")
    ∷ tables (input ++ second ++ output ++ same_prefix) (codes "duplicate name ::1/0")
    ∷ tables (input ++ output ++ same_prefix ++ same_path) (codes "duplicate name q")
    ∷ []

abbrev pub absent_faults : List Told
absent_faults = tables output (codes "no input")
    ∷ tables [] (codes "no input")
    ∷ tables input (codes "no output")
    ∷ tables (input ++ input ++ output) (codes "duplicate name in")
    ∷ tables (input ++ second ++ output) (codes "no order log")
    ∷ []

abbrev pub path_faults : List Told
path_faults = tables (codes "order-log = \"q\"\n" ++ input ++ second ++ output) (codes "duplicate name q")
    ∷ tables (codes "order-log = \"l\"\n" ++ input ++ second ++ output) (codes "ok")
    ∷ tables (input ++ output ++ same_path) (codes "duplicate name q")
    ∷ []

abbrev pub ordered_faults : List Told
ordered_faults = tables (output ++ codes "colour = 1\n") (codes "unknown key output.0.colour")
    ∷ tables (input ++ codes "stop-after = -1\n" ++ codes "[[output]]\n") (codes "out of range input.0.stop-after")
    ∷ tables (stage ++ codes "field = [{ id = 8, a = 1 }]\nrow = [{ }]\n" ++ codes "[[output]]\n") (codes "unknown key intermediate.0.field.0.a")
    ∷ []

abbrev pub inner_faults : List Told
inner_faults = tables (stage ++ codes "field = [{ id = 8 }]\nrow = [{ }]\n" ++ codes "[[output]]\n") (codes "missing intermediate.0.row.0.from")
    ∷ tables (codes "ring = 0\n[[input]]\n") (codes "out of range ring")
    ∷ tables (input ++ input) (codes "no output")
    ∷ []

abbrev pub first_faults : List Told
first_faults = tables (input ++ input ++ output ++ output) (codes "duplicate name in")
    ∷ []
