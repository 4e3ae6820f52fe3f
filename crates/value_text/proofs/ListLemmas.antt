-- Lists item by item.
use Rattle.std.proofs.Common.{◌≡◌, ℕ, true, false, List, [], ◌∷◌, ◌++◌, length, get_or, drop, refl, sym, ◌==◌}
use Rattle.std.specs.List.{flat_map}
use Rattle.std.specs.Net.Text.{hex, groups_text}
use Rattle.std.proofs.lemmas.Bool.{both_ways}
use Rattle.std.proofs.lemmas.Slice.Eq.{text_from_reads}
use Rattle.value_text.specs.Groups.{separator, later_group}

pub six_octets : (octets : List ℕ) → length octets ≡ 6
    → octets ≡ get_or octets 0 0 ∷ get_or octets 1 0 ∷ get_or octets 2 0 ∷ get_or octets 3 0 ∷ get_or octets 4 0 ∷ get_or octets 5 0 ∷ []
six_octets octets six = text_from_reads octets _ six (refl, (refl, (refl, (refl, (refl, (refl, tt))))))

-- groups begin with the first one
pub first_group : (groups : List ℕ) → false ≡ (length groups == 0) → hex (get_or groups 0 0) ++ flat_map later_group (drop 1 groups) ≡ groups_text groups
unfolding separator
first_group [] some = absurd (both_ways true (sym some) refl)
first_group (group ∷ groups) some = refl
