-- The places of a record's values, field by field.
use Rattle.std.proofs.Common.{◌≡◌, ℕ, suc, ◌+◌, ◌<◌, ◌≤◌, true, ◌&&◌, List, [], ◌∷◌, ◌++◌, Some, None, length, drop, map, get_or, refl, ap, ap₂, sym, subst, ◌∙◌, arith, drop-cons}
use Rattle.std.specs.List.{list_all}
use Rattle.std.proofs.Math.Seq.{drop-append_seam}
use Rattle.std.proofs.lemmas.Bool.{le-leb}
use Rattle.std.proofs.lemmas.List.{append-nil, drop-drop, drop_all}
use Rattle.std.proofs.lemmas.List.Folds.{list_all-append}
use Rattle.wire_spec.specs.declared.field.FieldSpec.{FieldSpec}
use Rattle.wire_spec.specs.Record.{IsRecord, IsSomeRecord}
use Rattle.wire_spec.specs.Size.{value_size}
use Rattle.wire_spec.specs.Values.{size_of, value_of, values_of}
use Rattle.wire_spec.proofs.ValueLemmas.{value_found}
use Rattle.wire_spec.proofs.ValuesLemmas.{size_is, values_are}
use Rattle.record_iter.specs.declared.place.ValuePlace.{ValuePlace}
use Rattle.record_iter.specs.Place.{IsValuePlace}
use Rattle.prepared_lines.specs.Places.{octets_at, is_inside, Stand}

-- What a walk over the fields has found: the places of the first fields' values, and a record of the others is left.
pub record HavePlaces (fields : List FieldSpec) (octets : List ℕ) (i at : ℕ) (places : List ValuePlace) : Type 0 where
  pub within : at ≤ length octets
  pub left : IsSomeRecord (drop i fields) (drop at octets)
  pub whole : map (octets_at octets) places ++ values_of (drop i fields) (drop at octets) ≡ values_of fields octets
  pub inside : list_all (is_inside (length octets)) places ≡ true

pub places_none : (fields : List FieldSpec) (octets : List ℕ) → IsSomeRecord fields octets → HavePlaces fields octets 0 0 []
places_none fields octets some = record { within = omega arith; left = some; whole = refl; inside = refl }

nothing_is_some : (n : ℕ) → Some n ≡ None → ⊥
nothing_is_some n e = cc

-- a record begins with a value of its first field
record_begins : (f : FieldSpec) (fields : List FieldSpec) (octets : List ℕ) → IsSomeRecord (f ∷ fields) octets → value_size f.len octets ≡ None → ⊥
record_begins f fields octets ([], r) e = absurd r
record_begins f fields octets (v ∷ values, r) e =
    nothing_is_some (length r.0) (sym (value_found f.len r.0 v r.1 r.2) ∙ ap (value_size f.len) (sym r.4) ∙ e)

-- and goes on with a record of the others
record_goes_on : (f : FieldSpec) (fields : List FieldSpec) (octets : List ℕ) → IsSomeRecord (f ∷ fields) octets → IsSomeRecord fields (drop (size_of f.len octets) octets)
record_goes_on f fields octets ([], r) = absurd r
record_goes_on f fields octets (v ∷ values, r) =
    let behind : drop (size_of f.len octets) octets ≡ r.1 = ap (λ o. drop (size_of f.len o) o) r.4 ∙ (ap (λ n. drop n (r.0 ++ r.1)) (size_is f.len r.0 v r.1 r.2) ∙ drop-append_seam r.0 r.1) in
    (values, subst (λ (o : List ℕ). IsRecord fields o values) (sym behind) r.3)

-- the next field begins a record of the fields that are left
first_left : (fields : List FieldSpec) (octets : List ℕ) (i at : ℕ) (places : List ValuePlace) (d : FieldSpec) → HavePlaces fields octets i at places → i < length fields
    → IsSomeRecord (get_or fields i d ∷ drop (suc i) fields) (drop at octets)
first_left fields octets i at places d have lt = subst (λ (l : List FieldSpec). IsSomeRecord l (drop at octets)) (drop-cons fields i d lt) have.left

pub place_whole : (fields : List FieldSpec) (octets : List ℕ) (i at : ℕ) (places : List ValuePlace) (d : FieldSpec) → HavePlaces fields octets i at places → i < length fields
    → value_size (get_or fields i d).len (drop at octets) ≡ None → ⊥
place_whole fields octets i at places d have lt = record_begins (get_or fields i d) (drop (suc i) fields) (drop at octets) (first_left fields octets i at places d have lt)

all_more : (size : ℕ) (places : List ValuePlace) (place : ValuePlace) → list_all (is_inside size) places ≡ true → is_inside size place ≡ true → list_all (is_inside size) (places ++ place ∷ []) ≡ true
all_more size places place all is = list_all-append (is_inside size) places (place ∷ []) ∙ ap₂ (λ a b. a && b) all (ap (λ b. b && true) is)

map_more : (octets : List ℕ) (places : List ValuePlace) (place : ValuePlace) (rest : List (List ℕ))
    → map (octets_at octets) (places ++ place ∷ []) ++ rest ≡ map (octets_at octets) places ++ octets_at octets place ∷ rest
map_more octets [] place rest = refl
map_more octets (p ∷ places) place rest = ap (λ l. octets_at octets p ∷ l) (map_more octets places place rest)

-- one place more
pub places_more : (fields : List FieldSpec) (octets : List ℕ) (i at : ℕ) (places : List ValuePlace) (d : FieldSpec) (place : ValuePlace) → HavePlaces fields octets i at places → i < length fields
    → IsValuePlace (get_or fields i d).len octets at place → HavePlaces fields octets (i + 1) (place.at + place.len) (places ++ place ∷ [])
places_more fields octets i at places d place have lt is =
    let f : FieldSpec = get_or fields i d in
    let more : List FieldSpec = drop (suc i) fields in
    let o = drop at octets in
    let next : drop (size_of f.len o) o ≡ drop (place.at + place.len) octets = drop-drop (size_of f.len o) at octets ∙ ap (λ n. drop n octets) (sym is.ends) in
    let one : drop (i + 1) fields ≡ more = ap (λ n. drop n fields) (let e : i + 1 ≡ suc i = omega arith in e) in
    let split : values_of (drop i fields) o ≡ value_of f.len o ∷ values_of more (drop (size_of f.len o) o) = ap (λ (l : List FieldSpec). values_of l o) (drop-cons fields i d lt) in
    record {
      within = is.inside;
      left = subst (λ (l : List FieldSpec). IsSomeRecord l (drop (place.at + place.len) octets)) (sym one)
          (subst (λ (x : List ℕ). IsSomeRecord more x) next (record_goes_on f more o (first_left fields octets i at places d have lt)));
      whole = ap (λ (l : List FieldSpec). map (octets_at octets) (places ++ place ∷ []) ++ values_of l (drop (place.at + place.len) octets)) one
          ∙ ap (λ (x : List ℕ). map (octets_at octets) (places ++ place ∷ []) ++ values_of more x) (sym next)
          ∙ map_more octets places place (values_of more (drop (size_of f.len o) o))
          ∙ ap (λ (v : List ℕ). map (octets_at octets) places ++ v ∷ values_of more (drop (size_of f.len o) o)) is.value
          ∙ ap (λ (l : List (List ℕ)). map (octets_at octets) places ++ l) (sym split)
          ∙ have.whole;
      inside = all_more (length octets) places place have.inside (le-leb _ _ is.inside);
    }

-- all of them
pub places_all : (fields : List FieldSpec) (octets : List ℕ) (i at : ℕ) (places : List ValuePlace) → HavePlaces fields octets i at places → length fields ≤ i
    → (values : List (List ℕ)) → IsRecord fields octets values → Stand octets places values
places_all fields octets i at places have le values r =
    let none : drop i fields ≡ [] = drop_all i fields le in
    record {
      are = sym (append-nil _) ∙ ap (λ (l : List FieldSpec). map (octets_at octets) places ++ values_of l (drop at octets)) (sym none) ∙ have.whole ∙ values_are fields octets values r;
      inside = have.inside;
    }
