-- A domain of a session: which template records it stands for, and what becomes of a message of it.
use Rattle.std.specs.Prelude.{ℕ, ◌≡◌, Bool, true, false, if◌then◌else◌, List, ◌++◌, Option, map, max, sum_by, count_by}
use Rattle.col_base.specs.Numbers.{be32_at}
use Rattle.wire_spec.specs.Content.{Message, Says, Touch}
use Rattle.template_spec.specs.Late.{is_late}
use Rattle.template_spec.specs.Changes.{count_after, redefines}
use Rattle.arrival_spec.specs.Settings.{Settings}
use Rattle.run_spec.specs.Touches.{touches_in}
use Rattle.run_spec.specs.Outcome.{outcomes_after, decoded_sets}
use Rattle.count_spec.specs.Counts.{gap, is_behind, is_skipped, left_out, next_number, records_in}
use Rattle.count_spec.specs.Shown.{shown_number}
use Rattle.ipfix_reader.specs.declared.message.Header.{Header}
use Rattle.pipeline_message.specs.Items.{set_of}
use Rattle.message_decode.specs.Steps.{Stands, AreSound}
use Rattle.session_domains.specs.declared.domain.Domain.{Domain}
use Rattle.session_domains.specs.declared.fate.Fate.{Fate}
use Rattle.session_domains.specs.declared.fate.Fate.TheVariants.{Crowded, Late, Taken}
use Rattle.session_domains.specs.declared.fate.TakenMessage.{TakenMessage}

-- the numbers in the header of a message
pub record IsHeader (octets : List ℕ) (header : Header) : Type 0 where
  pub export : header.export ≡ be32_at 4 octets
  pub seq : header.seq ≡ be32_at 8 octets
  pub domain : header.domain ≡ be32_at 12 octets

-- a domain stands for these template records; this is the newest export time of its messages, and the number due in it
pub record DomainStands (settings : Settings) (past : List (ℕ × Touch)) (newest : ℕ) (due : Option ℕ) (d : Domain) : Type 0 where
  pub templates : Stands settings past d.manager
  pub newest_is : d.manager.greatest ≡ newest
  pub due_is : d.due ≡ due

-- what was found in a message that is taken, behind these template records and where this number was due, is what the
-- definitions give
pub record IsTakenAs (settings : Settings) (octets : List ℕ) (past : List (ℕ × Touch)) (due : Option ℕ) (m : Message) (t : TakenMessage) : Type 0 where
  pub sets : map (set_of octets) t.sets.items ≡ decoded_sets (outcomes_after settings m.export past m.parts)
  pub sound : AreSound octets t.sets.items
  pub records : t.counts.records ≡ shown_number (records_in (outcomes_after settings m.export past m.parts))
  pub skipped : t.counts.skipped ≡ shown_number (count_by is_skipped (outcomes_after settings m.export past m.parts))
  pub ignored : t.counts.ignored ≡ shown_number (sum_by (left_out settings) m.parts)
  pub redefined : t.counts.redefined ≡ shown_number (count_after (redefines settings.transport settings.life) past (touches_in settings.transport m))
  pub lost : t.lost ≡ (if is_behind (gap m.sequence due) then 0 else gap m.sequence due)
  pub behind : t.behind ≡ is_behind (gap m.sequence due)

abbrev pub is_late_now : Settings → ℕ → Message → Bool
is_late_now settings newest m = is_late settings.transport settings.life (max newest m.export) m.export

-- a message is late, or taken: then its template records count, and the number behind it is due
abbrev pub FateBy : Settings → List ℕ → List (ℕ × Touch) → ℕ → Option ℕ → Message → Domain → Fate → Type 0
FateBy settings octets past newest due m new Crowded = ⊥
FateBy settings octets past newest due m new Late = (is_late_now settings newest m ≡ true) × DomainStands settings past (max newest m.export) due new
FateBy settings octets past newest due m new (Taken t) = (is_late_now settings newest m ≡ false) × IsTakenAs settings octets past due m t
    × DomainStands settings (past ++ touches_in settings.transport m) (max newest m.export) (next_number m.sequence (outcomes_after settings m.export past m.parts)) new

abbrev pub DomainTakes : List ℕ → Domain → Domain → Fate → Type 0
DomainTakes octets old new fate = (m : Message) → Says octets m → (settings : Settings) (past : List (ℕ × Touch)) (newest : ℕ) (due : Option ℕ) → DomainStands settings past newest due old
    → FateBy settings octets past newest due m new fate
