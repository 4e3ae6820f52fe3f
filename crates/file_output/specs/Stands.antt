-- What a numbering stands for: the items that its file has so far. Of each domain it keeps the definitions in order of
-- first use, and the sequence number.
use Rattle.std.specs.Prelude.{ℕ, ◌≡◌, ◌<◌, List, [], ◌∷◌, length, flat_map, find, nat_eq, nat_lt, ◌++◌, None}
use Rattle.indexmap.specs.IndexMap.{get}
use Rattle.run_spec.specs.Outcome.{DecodedSet}
use Rattle.run_spec.specs.Work.{Item}
use Rattle.run_spec.specs.Work.Item.{Note, Tick, Data}
use Rattle.file_spec.specs.File.{definitions_of, sequence_of, needed_by, octets_after}
use Rattle.file_output.specs.Sets.{Body, Domain}
use Rattle.file_output.specs.Domains.{domain_or_new}
use Rattle.file_output.specs.declared.kept.Numbering.{Numbering}

-- what a numbering keeps of a domain
abbrev pub domain_in : Numbering → ℕ → Domain
domain_in numbering domain = domain_or_new (get nat_eq numbering.domains domain)

-- what items give for a domain
abbrev pub domain_of : List Item → ℕ → Domain
domain_of items domain = record { known = definitions_of domain items; sequence = sequence_of domain items }

abbrev pub StandsFor : List Item → Numbering → Type 0
StandsFor items numbering = (domain : ℕ) → domain_in numbering domain ≡ domain_of items domain

-- the records are those of a decoded set, at least one
pub record IsOfSet (b : Body) (d : DecodedSet) : Type 0 where
  pub definition : b.definition ≡ d.definition
  pub octets : b.octets ≡ flat_map (λ r. r.octets) d.records
  pub records : b.records ≡ length d.records
  pub some : 0 < length d.records

-- the sets are these decoded ones, one by one
abbrev pub AreOfSets : {X : Type 0} → (X → Body) → List X → List DecodedSet → Type 0
AreOfSets body [] [] = Unit {0}
AreOfSets body [] (d ∷ decoded) = ⊥
AreOfSets body (s ∷ sets) [] = ⊥
AreOfSets body (s ∷ sets) (d ∷ decoded) = IsOfSet (body s) d × AreOfSets body sets decoded

-- the item is one of a message of this domain and export time with these sets
abbrev pub IsItemOf : {X : Type 0} → (X → Body) → ℕ → ℕ → List X → Item → Type 0
IsItemOf body domain export sets (Data key d e sequence decoded) = (domain ≡ d) × (export ≡ e) × AreOfSets body sets decoded
IsItemOf body domain export sets (Note key transport opened) = ⊥
IsItemOf body domain export sets (Tick input seconds) = ⊥

-- behind some items one more was put: what it gives is appended, it needs no number past the last, and what is kept
-- stands for it too
pub record IsPut (last : ℕ) (items : List Item) (item : Item) (numbering : Numbering) (old new : List ℕ) : Type 0 where
  pub appended : new ≡ old ++ octets_after items item
  pub enough : find (nat_lt last) (needed_by (items ++ item ∷ []) item) ≡ None
  pub stands : StandsFor (items ++ item ∷ []) numbering
