-- The values of a tree beside the vectors of the code.
use Rattle.std.proofs.Common.{◌≡◌, List, [], ◌∷◌, map, refl, ap}
use Rattle.toml.specs.View.{view, items_view}
use Rattle.toml.specs.declared.value.Value.{Value}
use Rattle.config_spec.specs.Fits.{items_list}

pub items_list_view : (vs : List Value) → items_list (items_view vs) ≡ map view vs
unfolding items_list
items_list_view [] = refl
items_list_view (v ∷ vs) = ap (λ more. view v ∷ more) (items_list_view vs)
