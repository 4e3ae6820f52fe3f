-- What a step over the sets of a message, and over the template records of a set, gives, and what is said so
-- far (RFC 7011, sections 3.3, 3.4 and 8.1).
use Rattle.std.specs.Prelude.{ℕ, ◌≡◌, ◌+◌, ◌==◌, if◌then◌else◌, nat_lt, List, [], ◌++◌, Option, Some, None, IfSome, drop, map, length}
use Rattle.std.specs.List.{AllByRecursion, concat}
use Rattle.col_base.specs.declared.base.Kind.{Kind}
use Rattle.col_base.specs.Numbers.{be16_at, be32_at}
use Rattle.wire_spec.specs.Rows.{IsRow}
use Rattle.wire_spec.specs.Places.{StandsAt}
use Rattle.wire_spec.specs.Message.{IsMessage, IsSet, IsNothing, IsBody, IsPadding, IsTemplateRecord, front, defines, has_scope, set_size, set_rules, first_broken, kind_of}
use Rattle.wire_spec.specs.Content.{Touch, Part, Message, SayParts, touch_of, fields_of}
use Rattle.wire_spec.specs.Content.Touch.{Define, Withdraw, WithdrawAll}
use Rattle.wire_spec.specs.Content.Part.{Touches, Body}
use Rattle.ipfix_reader.specs.declared.raw.RawSet.{RawSet}
use Rattle.ipfix_reader.specs.declared.raw.RawTemplate.{RawTemplate}

abbrev pub IsSomeMessage : List ℕ → Type 0
IsSomeMessage octets = (sets : List (List ℕ)) × IsMessage octets sets

abbrev pub AreSomeSets : List ℕ → Type 0
AreSomeSets octets = (sets : List (List ℕ)) × IsRow IsSet IsNothing octets sets

abbrev pub AreSomeTemplates : Kind → List ℕ → Type 0
AreSomeTemplates kind octets = IsBody (Some kind) octets

-- octets that keep the rule of sets and are as long as they say
pub record IsSized (set : List ℕ) : Type 0 where
  pub unbroken : first_broken set_rules set ≡ None
  pub whole : set_size set ≡ length set

-- a raw set is these octets, at that place of the message
pub record IsRawSet (raw : RawSet) (place : ℕ) (set : List ℕ) : Type 0 where
  pub sized : IsSized set
  pub id : raw.id ≡ be16_at 0 set
  pub at : raw.at ≡ place
  pub body : raw.body.now ≡ drop 4 set

-- a step gives the first set, or shows that none is left
abbrev pub GivesSet : ℕ → List ℕ → Option RawSet → ℕ → List ℕ → Type 0
GivesSet at old None to new = (old ≡ []) × (new ≡ []) × (to ≡ at)
GivesSet at old (Some raw) to new = (set : List ℕ) × (old ≡ set ++ new) × IsRawSet raw at set × (to ≡ at + length set)

-- a raw set is one that stands at its place in the message
abbrev pub StandsIn : List ℕ → RawSet → Type 0
StandsIn message raw = (set : List ℕ) × IsRawSet raw raw.at set × StandsAt message raw.at set

-- a step gives the first set, which stands at its place in the message, or shows that none is left
abbrev pub GivesSetOf : List ℕ → ℕ → List ℕ → Option RawSet → ℕ → List ℕ → Type 0
GivesSetOf message at old raw to new = GivesSet at old raw to new × IfSome raw (StandsIn message)

-- a raw template is this template record
pub record IsRawTemplate (raw : RawTemplate) (kind : Kind) (octets : List ℕ) : Type 0 where
  pub are : IsTemplateRecord kind octets
  pub same : raw.kind ≡ kind
  pub id : raw.id ≡ be16_at 0 octets
  pub count : raw.count ≡ be16_at 2 octets
  pub scope : raw.scope ≡ (if has_scope kind octets then be16_at 4 octets else 0)
  pub specs : raw.specs.now ≡ (if defines octets then drop (front kind) octets else [])

-- a step gives the first template record, or shows that padding is left
abbrev pub GivesTemplate : Kind → List ℕ → Option RawTemplate → List ℕ → Type 0
GivesTemplate kind old None new = IsPadding old × (new ≡ old)
GivesTemplate kind old (Some raw) new = (first : List ℕ) × (old ≡ first ++ new) × IsRawTemplate raw kind first

-- what a raw template says
abbrev pub touch_by : RawTemplate → Touch
touch_by raw =
    if raw.count == 0 then (if nat_lt raw.id 256 then WithdrawAll raw.kind else Withdraw raw.id)
    else Define raw.id (record { kind = raw.kind; scope = raw.scope; fields = fields_of raw.count raw.specs.now })

-- what a raw set says, by the kind of its template records, if it has any
abbrev pub SaysBy : Option Kind → ℕ → List ℕ → Part → Type 0
SaysBy (Some kind) id body part = (records : List (List ℕ)) × IsRow (IsTemplateRecord kind) IsPadding body records × (part ≡ Touches (map (touch_of kind) records))
SaysBy None id body part = part ≡ Body id body

abbrev pub RawSays : RawSet → Part → Type 0
RawSays raw part = SaysBy (kind_of raw.id) raw.id raw.body.now part

-- The template records of a set so far say these touches, and the rest is left: what a loop over
-- `template_records` keeps.
pub record HaveTouched (raw : RawSet) (kind : Kind) (rest : List ℕ) (touches : List Touch) : Type 0 where
  pub of_kind : kind_of raw.id ≡ Some kind
  pub records : List (List ℕ)
  pub each : AllByRecursion (IsTemplateRecord kind) records
  pub whole : raw.body.now ≡ concat records ++ rest
  pub are : touches ≡ map (touch_of kind) records

-- The sets of a message so far say these parts, and the rest is left: what a loop over `sets` keeps.
pub record HaveSaid (octets rest : List ℕ) (parts : List Part) : Type 0 where
  pub sets : List (List ℕ)
  pub each : AllByRecursion IsSet sets
  pub whole : drop 16 octets ≡ concat sets ++ rest
  pub say : SayParts sets parts

-- a message of these octets that says these parts
abbrev pub message_of : List ℕ → List Part → Message
message_of octets parts = record { export = be32_at 4 octets; sequence = be32_at 8 octets; domain = be32_at 12 octets; parts = parts }
