-- Places, one after another.
use Rattle.std.proofs.Common.{ℕ, ◌+◌, ◌<◌, List, get_or, length, drop, subst}
use Rattle.std.specs.List.{AllByRecursion}
use Rattle.std.proofs.lemmas.List.{drop_more}
use Rattle.pipeline_message.specs.declared.message.Place.{Place}

-- the first of the places that are left
pub first_place : (P : Place → Type 0) (places : List Place) (i : ℕ) (d : Place) → i < length places → AllByRecursion P (drop i places) → P (get_or places i d) × AllByRecursion P (drop (i + 1) places)
first_place P places i d lt all = subst (AllByRecursion P) (drop_more places i d lt) all
