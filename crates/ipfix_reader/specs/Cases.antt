-- What a set has, which its ID says (RFC 7011, section 3.3.2), and what a template record does (sections 3.4 and 8.1).
use Rattle.std.specs.Prelude.{ℕ, ◌≡◌, ◌≢◌, ◌⊎◌, ◌<◌, ◌≤◌, Some, None}
use Rattle.wire_spec.specs.Message.{kind_of, set_id}
use Rattle.wire_spec.specs.Content.{Touch}
use Rattle.wire_spec.specs.Content.Touch.{Define as SaysDefine, Withdraw as SaysWithdraw, WithdrawAll as SaysWithdrawAll}
use Rattle.wire_spec.specs.Specifiers.{defined_by}
use Rattle.ipfix_reader.specs.declared.raw.SetContent.{SetContent}
use Rattle.ipfix_reader.specs.declared.raw.SetContent.TheVariants.{Templates, Data, Reserved}
use Rattle.ipfix_reader.specs.declared.raw.RawTemplate.{RawTemplate}
use Rattle.ipfix_reader.specs.declared.raw.RawDefinition.{RawDefinition}
use Rattle.ipfix_reader.specs.declared.raw.RawTouch.{RawTouch}
use Rattle.ipfix_reader.specs.declared.raw.RawTouch.TheVariants.{Define, Withdraw, WithdrawAll}

-- a set of ID 2 or 3 has template records of a kind, and one of an ID from 256 on has data records; any other is reserved
abbrev pub HasContent : ℕ → SetContent → Type 0
HasContent id (Templates kind) = (kind_of id ≡ Some kind) × ((id ≡ 2) ⊎ (id ≡ 3))
HasContent id (Data template) = (template ≡ id) × (256 ≤ id)
HasContent id Reserved = (kind_of id ≡ None) × (id < 256)

-- the definition has the parts of the template record
pub record HasParts (raw : RawTemplate) (definition : RawDefinition) : Type 0 where
  pub kind : definition.kind ≡ raw.kind
  pub id : definition.id ≡ raw.id
  pub scope : definition.scope ≡ raw.scope
  pub count : definition.count ≡ raw.count
  pub specs : definition.specs.now ≡ raw.specs.now

-- A template record with fields defines its ID. One without fields withdraws its ID, or all of its kind where the ID is
-- that of the kind's sets.
abbrev pub HasTouch : RawTemplate → RawTouch → Type 0
HasTouch raw (Define definition) = (raw.count ≢ 0) × HasParts raw definition
HasTouch raw (Withdraw id) = (raw.count ≡ 0) × (id ≡ raw.id) × (256 ≤ raw.id)
HasTouch raw (WithdrawAll kind) = (raw.count ≡ 0) × (kind ≡ raw.kind) × (raw.id ≡ set_id kind)

-- what that says
abbrev pub touch_said : RawTouch → Touch
touch_said (Define d) = SaysDefine d.id (defined_by d.kind d.scope d.count d.specs.now)
touch_said (Withdraw id) = SaysWithdraw id
touch_said (WithdrawAll kind) = SaysWithdrawAll kind
