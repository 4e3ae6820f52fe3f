-- What a step over the records of a body, and over the fields of a record, gives, and what a walk has found so far
-- (RFC 7011, sections 3.4.3 and 7).
use Rattle.std.specs.Prelude.{ℕ, ◌≡◌, ◌+◌, List, [], ◌∷◌, ◌++◌, Option, Some, None, length}
use Rattle.std.specs.List.{AllByRecursion, concat}
use Rattle.wire_spec.specs.declared.field.FieldSpec.{FieldSpec}
use Rattle.wire_spec.specs.Record.{IsEncoded, IsRecord, IsSomeRecord, IsShort}
use Rattle.record_iter.specs.declared.value.FieldValue.{FieldValue}

-- a step gives the first record, or shows that padding is left
abbrev pub GivesRecord : List FieldSpec → List ℕ → Option (List ℕ) → List ℕ → Type 0
GivesRecord fields old None new = IsShort fields old × (new ≡ old)
GivesRecord fields old (Some first) new = (old ≡ first ++ new) × IsSomeRecord fields first

-- The records of a body so far are these, and the rest is left to a walk over records of the same fields: what a loop
-- over `records` keeps.
pub record HaveRecords (fields : List FieldSpec) (body : List ℕ) (left : List FieldSpec) (rest : List ℕ) (list : List (List ℕ)) : Type 0 where
  pub same : left ≡ fields
  pub each : AllByRecursion (IsSomeRecord fields) list
  pub whole : body ≡ concat list ++ rest

-- the octets are a field with this value, and the rest
pub record BeginsValue (len : ℕ) (octets value rest : List ℕ) : Type 0 where
  pub first : List ℕ
  pub joined : octets ≡ first ++ rest
  pub encoded : IsEncoded len first value

-- behind so many octets of a record come those of a field, which end with its value, and then the rest
pub record IsFieldAt (at : ℕ) (octets : List ℕ) (field : FieldSpec) (found : FieldValue) (to : ℕ) (rest : List ℕ) : Type 0 where
  pub spec : found.spec ≡ field
  pub begins : BeginsValue field.len octets found.value.now rest
  pub goes_on : to ≡ at + length begins.first
  pub ends : found.at + length found.value.now ≡ to

-- a step gives the value of the first field, or shows that nothing is left
abbrev pub GivesField : List FieldSpec → ℕ → List ℕ → Option FieldValue → List FieldSpec → ℕ → List ℕ → Type 0
GivesField fields at octets None more to rest = (fields ≡ []) × (octets ≡ [])
GivesField fields at octets (Some found) more to rest = (field : FieldSpec) × (fields ≡ field ∷ more) × IsFieldAt at octets field found to rest

-- The values of a record's fields so far are these, in so many octets, and the rest is left: what a loop over `fields`
-- keeps.
pub record HaveValues (fields : List FieldSpec) (octets : List ℕ) (left : List FieldSpec) (at : ℕ) (rest : List ℕ) (values : List (List ℕ)) : Type 0 where
  pub done : List FieldSpec
  pub before : List ℕ
  pub fields_are : fields ≡ done ++ left
  pub whole : octets ≡ before ++ rest
  pub place : at ≡ length before
  pub are : IsRecord done before values

-- a value stands at its place in a record
pub record StandsAt (octets : List ℕ) (found : FieldValue) : Type 0 where
  pub before : List ℕ
  pub after : List ℕ
  pub whole : octets ≡ before ++ (found.value.now ++ after)
  pub place : found.at ≡ length before
