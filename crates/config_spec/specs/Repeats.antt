-- Names, paths and prefixes that stand twice.
use Rattle.std.specs.Prelude.{ℕ, ◌+◌, Bool, List, [], ◌∷◌, ◌++◌, map, take, Option, Some, None, option_map, option_to_list, if◌then◌else◌}
use Rattle.std.specs.List.{list_any}
use Rattle.std.specs.Str.{bytes_eq}
use Rattle.toml.specs.Data.{Data, Members}
use Rattle.config_spec.specs.declared.key.Key.TheVariants as K
use Rattle.config_spec.specs.declared.conf.Conf.{Conf}
use Rattle.config_spec.specs.declared.fault.ConfFault.{ConfFault}
use Rattle.config_spec.specs.declared.fault.ConfFault.TheVariants.{DuplicateName}
use Rattle.config_spec.specs.declared.tables.Prefix.{Prefix}
use Rattle.config_spec.specs.declared.marked.Marked.{Marked}
use Rattle.config_spec.specs.First.{first_fault}
use Rattle.config_spec.specs.Fits.{text_at}
use Rattle.config_spec.specs.Values.{prefix_at, tables_at, each_table}

-- whether one of these has the mark
abbrev pub is_marked : List ℕ → List Marked → Bool
is_marked mark others = list_any (λ other. bytes_eq other.mark mark) others

-- the text of the first of the rest, which begins at this place of all, that has the mark of one before it
abbrev pub repeat_from : ℕ → List Marked → List Marked → Option (List ℕ)
repeat_from place all [] = None
repeat_from place all (marked ∷ rest) = if is_marked marked.mark (take place all) then Some marked.text else repeat_from (place + 1) all rest

unfoldable pub repeat_fault : List Marked → Option ConfFault
repeat_fault all = option_map (λ text. DuplicateName text) (repeat_from 0 all all)

-- a text that is its own mark
abbrev pub plain : List ℕ → Marked
plain text = record { text = text; mark = text }

-- the names of the instances, in their order
unfoldable pub names_of : Conf → List Marked
names_of conf = map (λ input. plain input.spec.name) conf.inputs
    ++ (map (λ stage. plain stage.name) conf.stages ++ map (λ output. plain output.name) conf.outputs)

-- the paths that are written: that of the order log and those of the outputs
unfoldable pub paths_of : Conf → List Marked
paths_of conf = map plain (option_to_list conf.order_log) ++ map (λ output. plain output.path) conf.outputs

-- two prefixes have one mark where they have the same kind of address, the same number of bits, and these
-- bits are the same
abbrev pub mark_of : Prefix → List ℕ
mark_of prefix = prefix.bits ∷ prefix.octets

-- the prefix of a row of an anonymiser, as it is written, with its mark
unfoldable pub prefix_in : Members → Marked
prefix_in entries = record { text = text_at K.From entries; mark = mark_of (prefix_at K.From entries) }

-- the fault of the first prefix that an anonymiser has twice
unfoldable pub prefix_fault : Members → Option ConfFault
prefix_fault entries = repeat_fault (tables_at prefix_in K.Row entries)

-- the same of the first of some anonymisers that has one
abbrev pub prefixes_fault : List Data → Option ConfFault
prefixes_fault values = first_fault (each_table prefix_fault values)
