-- The description that octets stand for, or its first fault.
use Rattle.std.specs.Prelude.{ℕ, List, [], ◌∷◌, length, Option, Some, None, Result, Ok, Err, is_some, Bool, not, ◌&&◌, ◌==◌, nat_le, if◌then◌else◌}
use Rattle.std.specs.Str.{is_utf8}
use Rattle.toml.specs.Data.{Members}
use Rattle.toml.specs.Parse.{parse_document}
use Rattle.config_spec.specs.declared.key.Key.TheVariants as K
use Rattle.config_spec.specs.declared.conf.Conf.{Conf}
use Rattle.config_spec.specs.declared.fault.ConfFault.{ConfFault}
use Rattle.config_spec.specs.declared.fault.ConfFault.TheVariants.{NotToml, NoInput, NoOutput, NoOrderLog}
use Rattle.config_spec.specs.First.{first_fault}
use Rattle.config_spec.specs.Faults.{tables_fault, items_at}
use Rattle.config_spec.specs.Values.{conf_of}
use Rattle.config_spec.specs.Repeats.{repeat_fault, names_of, paths_of, prefixes_fault}

abbrev pub fault_if : ConfFault → Bool → Option ConfFault
fault_if fault holds = if holds then Some fault else None

abbrev pub no_input : Conf → Option ConfFault
no_input conf = fault_if NoInput (length conf.inputs == 0)

abbrev pub no_output : Conf → Option ConfFault
no_output conf = fault_if NoOutput (length conf.outputs == 0)

-- two or more inputs need an order log
abbrev pub no_order_log : Conf → Option ConfFault
no_order_log conf = fault_if NoOrderLog (nat_le 2 (length conf.inputs) && not (is_some conf.order_log))

-- what may be wrong with a description whose tables have no fault
abbrev pub whole_faults : Members → Conf → List (Option ConfFault)
whole_faults entries conf =
    no_input conf ∷ no_output conf ∷ repeat_fault (names_of conf) ∷ repeat_fault (paths_of conf) ∷ prefixes_fault (items_at K.Intermediate entries)
    ∷ no_order_log conf ∷ []

-- the first fault of a tree: that of its tables, and then that of the whole
unfoldable pub tree_fault : Members → Option ConfFault
tree_fault entries = first_fault (tables_fault entries ∷ whole_faults entries (conf_of entries))

abbrev pub unless_fault : Conf → Option ConfFault → Result Conf ConfFault
unless_fault conf (Some fault) = Err fault
unless_fault conf None = Ok conf

-- the finished tree of octets
abbrev pub tree_of : List ℕ → Option Members
tree_of octets = if is_utf8 octets then parse_document octets else None

abbrev pub tree_conf : Option Members → Result Conf ConfFault
tree_conf None = Err NotToml
tree_conf (Some entries) = unless_fault (conf_of entries) (tree_fault entries)

-- the description that octets stand for, or its first fault
unfoldable pub description : List ℕ → Result Conf ConfFault
description octets = tree_conf (tree_of octets)
