-- What becomes of one template record, by those before it (RFC 7011, section 8; that withdrawals over UDP are ignored:
-- section 8.4).
use Rattle.std.specs.Prelude.{ℕ, if◌then◌else◌, Bool, true, false, List, Option, Some, None}
use Rattle.col_base.specs.declared.base.Lifetimes.{Lifetimes}
use Rattle.col_base.specs.declared.base.Transport.{Transport}
use Rattle.col_base.specs.declared.base.Transport.TheVariants.{Tcp, Udp, File}
use Rattle.wire_spec.specs.Content.{Definition, Touch}
use Rattle.wire_spec.specs.Content.Touch.{Define, Withdraw, WithdrawAll}
use Rattle.template_spec.specs.declared.outcome.Taken.{Taken}
use Rattle.template_spec.specs.declared.outcome.Taken.TheVariants.{New, Same, Redefined, Withdrawn, Ignored}
use Rattle.template_spec.specs.Valid.{valid}
use Rattle.template_spec.specs.Same.{same_definition}

-- a definition, by the one that is valid just before
abbrev pub defined_as : Option Definition → Definition → Taken
defined_as None definition = New
defined_as (Some found) definition = if same_definition found definition then Same else Redefined

abbrev pub withdrawn_over : Transport → Taken
withdrawn_over Tcp = Withdrawn
withdrawn_over File = Withdrawn
withdrawn_over Udp = Ignored

abbrev pub taken : Transport → Lifetimes → List (ℕ × Touch) → ℕ × Touch → Taken
taken transport life past (time, Define id definition) = defined_as (valid transport life past time id) definition
taken transport life past (time, Withdraw id) = withdrawn_over transport
taken transport life past (time, WithdrawAll kind) = withdrawn_over transport

abbrev pub is_redefined : Taken → Bool
is_redefined New = false
is_redefined Same = false
is_redefined Redefined = true
is_redefined Withdrawn = false
is_redefined Ignored = false
