-- What is kept of the definitions of all sessions.
use Rattle.std.specs.Prelude.{◌≡◌, ◌<◌, ◌⊎◌, ℕ, Bool, true, false, ◌+◌, ◌*◌, ◌^◌, if◌then◌else◌, Option, None, Some, option_map, nat_eq}
use Rattle.indexmap.specs.IndexMap.{get, index_map_len}
use Rattle.col_base.specs.declared.base.SessionKey.{SessionKey}
use Rattle.wire_spec.specs.Content.{Definition}
use Rattle.kept_forms.specs.declared.session.Form.{Form}
use Rattle.kept_forms.specs.declared.session.SessionForms.{SessionForms}
use Rattle.kept_forms.specs.declared.forms.KeptForms.{KeptForms}

-- the numbers of a session, and of a Template ID of a domain
abbrev pub session_number : SessionKey → ℕ
session_number key = key.input * 2 ^ 32 + key.number

abbrev pub template_number : ℕ → ℕ → ℕ
template_number domain template = domain * 2 ^ 16 + template

module _ {T : Type 0} where
  -- a definition, and what was made of it
  abbrev pub made_of : Form T → Definition × T
  made_of form = (form.definition.value, form.made)

  abbrev pub kept_in : SessionForms T → ℕ → Option (Definition × T)
  kept_in forms template = option_map made_of (get nat_eq forms.rows template)

  abbrev pub kept_of : Option (SessionForms T) → ℕ → Option (Definition × T)
  kept_of None template = None
  kept_of (Some forms) template = kept_in forms template

  -- the definition that is kept under the numbers of a session and a template, and what was made of it
  abbrev pub kept : KeptForms T → ℕ → ℕ → Option (Definition × T)
  kept forms session template = kept_of (get nat_eq forms.sessions session) template

  -- how many forms are kept of a session
  abbrev pub count_of : Option (SessionForms T) → ℕ
  count_of None = 0
  count_of (Some forms) = index_map_len forms.rows

  abbrev pub number_kept : KeptForms T → ℕ → ℕ
  number_kept forms session = count_of (get nat_eq forms.sessions session)

  -- a form is what it was, or was let go
  abbrev pub StaysOrGoes : Option (Definition × T) → Option (Definition × T) → Type 0
  StaysOrGoes old new = (new ≡ old) ⊎ (new ≡ None)

  -- what is kept under a number: this, or under all others what was
  abbrev pub KeepsAt : Bool → Definition × T → Option (Definition × T) → Option (Definition × T) → Type 0
  KeepsAt true form old new = new ≡ Some form
  KeepsAt false form old new = StaysOrGoes old new

  abbrev pub KeepsIn : ℕ → Definition × T → SessionForms T → SessionForms T → Type 0
  KeepsIn template form old new = (t : ℕ) → KeepsAt (nat_eq template t) form (kept_in old t) (kept_in new t)

  abbrev pub LetsGoIn : SessionForms T → SessionForms T → Type 0
  LetsGoIn old new = (t : ℕ) → StaysOrGoes (kept_in old t) (kept_in new t)

  -- Under these numbers this is kept now. All else is as it was, but that forms of the session may be let go.
  pub record Keeps (session template : ℕ) (definition : Definition) (made : T) (old new : KeptForms T) : Type 0 where
    pub its : (t : ℕ) → KeepsAt (nat_eq template t) (definition, made) (kept old session t) (kept new session t)
    pub others : (s t : ℕ) → nat_eq session s ≡ false → kept new s t ≡ kept old s t

  -- all is as it was, but that forms of this session may be let go
  pub record LetsGo (session : ℕ) (old new : KeptForms T) : Type 0 where
    pub its : (t : ℕ) → StaysOrGoes (kept old session t) (kept new session t)
    pub others : (s t : ℕ) → nat_eq session s ≡ false → kept new s t ≡ kept old s t

  -- Where fewer than 1,024 forms are kept, none but that of this template goes.
  abbrev pub SpareIn : ℕ → SessionForms T → SessionForms T → Type 0
  SpareIn template old new = index_map_len old.rows < 1024 → (t : ℕ) → nat_eq template t ≡ false → kept_in new t ≡ kept_in old t

  abbrev pub Spares : ℕ → ℕ → KeptForms T → KeptForms T → Type 0
  Spares session template old new = number_kept old session < 1024 → (t : ℕ) → nat_eq template t ≡ false → kept new session t ≡ kept old session t

  -- nothing is kept of a session now, and all else is as it was
  abbrev pub Forgets : ℕ → KeptForms T → KeptForms T → Type 0
  Forgets session old new = (s t : ℕ) → kept new s t ≡ (if nat_eq session s then None else kept old s t)
