-- The values of a tree beside the vectors of the code.
use Rattle.std.proofs.Common.{◌≡◌, List, [], ◌∷◌, map, length, ◌&&◌, nat_le, is_some, refl, ap}
use Rattle.std.proofs.lemmas.List.{length-map}
use Rattle.std.specs.List.{list_all}
use Rattle.toml.specs.Data.{as_table}
use Rattle.toml.specs.View.{view, items_view}
use Rattle.toml.specs.declared.value.Value.{Value}
use Rattle.element_spec.specs.Table.{items_list, are_tables}

pub items_list_view : (vs : List Value) → items_list (items_view vs) ≡ map view vs
unfolding items_list
items_list_view [] = refl
items_list_view (v ∷ vs) = ap (λ more. view v ∷ more) (items_list_view vs)

all_tables_view : (vs : List Value) → list_all (λ d. is_some (as_table d)) (map view vs) ≡ list_all (λ v. is_some (as_table (view v))) vs
all_tables_view [] = refl
all_tables_view (v ∷ vs) = ap (λ more. is_some (as_table (view v)) && more) (all_tables_view vs)

pub tables_view : (vs : List Value) → are_tables (items_list (items_view vs)) ≡ (list_all (λ v. is_some (as_table (view v))) vs && nat_le (length vs) 65536)
tables_view vs = rw (items_list_view, all_tables_view, length-map)
