-- What becomes of a message of a domain.
use Rattle.std.proofs.Common.{◌≡◌, ℕ, Bool, true, false, cond, List, map, ap, sym, subst, ◌∙◌}
use Rattle.std.specs.Prelude.{Option, max}
use Rattle.col_base.specs.declared.base.Lifetimes.{Lifetimes}
use Rattle.col_base.specs.declared.base.Transport.{Transport}
use Rattle.col_base.specs.Numbers.{be32_at}
use Rattle.wire_spec.specs.Content.{Message, Part, Says, Touch}
use Rattle.wire_spec.proofs.ContentLemmas.{one_says}
use Rattle.template_spec.specs.Late.{is_late}
use Rattle.template_manager.specs.State.{State}
use Rattle.template_manager.specs.Stands.{StandsBy, StandsFor}
use Rattle.arrival_spec.specs.Settings.{Settings}
use Rattle.count_spec.specs.Counts.{gap, is_behind}
use Rattle.ipfix_reader.specs.declared.message.Header.{Header}
use Rattle.ipfix_reader.specs.Walk.{message_of}
use Rattle.pipeline_message.specs.Items.{set_of}
use Rattle.message_decode.specs.declared.counts.SetCounts.{SetCounts}
use Rattle.message_decode.specs.declared.decoded.Decoded.{Decoded}
use Rattle.message_decode.specs.Steps.{Stands, AreSound, Gives, Decodes}
use Rattle.session_domains.specs.declared.domain.Domain.{Domain}
use Rattle.session_domains.specs.declared.fate.Fate.TheVariants.{Late, Taken}
use Rattle.session_domains.specs.declared.fate.TakenMessage.{TakenMessage}
use Rattle.session_domains.specs.Domain.{IsHeader, DomainStands, FateBy, DomainTakes}

-- a message of this export time arrived
pub record Arrived (export : ℕ) (old new : State) : Type 0 where
  pub stands : (past : List (ℕ × Touch)) → StandsFor old past → StandsFor new past
  pub greatest : new.greatest ≡ max old.greatest export
  pub transport : new.transport ≡ old.transport
  pub life : new.life ≡ old.life

stands_on : (settings : Settings) (past : List (ℕ × Touch)) (export : ℕ) (old new : State) → Arrived export old new → Stands settings past old → Stands settings past new
stands_on settings past export old new a s = record { transport = a.transport ∙ s.transport; life = a.life ∙ s.life; records = a.stands past s.records }

-- whether a message is late, by the manager
late_as : (settings : Settings) (newest : ℕ) (old new : State) (export : ℕ) → Arrived export old new → old.transport ≡ settings.transport → old.life ≡ settings.life → old.greatest ≡ newest
    → is_late new.transport new.life new.greatest export ≡ is_late settings.transport settings.life (max newest export) export
late_as settings newest old new export a t l g =
    ap (λ x. is_late x new.life new.greatest export) (a.transport ∙ t) ∙ (ap (λ x. is_late settings.transport x new.greatest export) (a.life ∙ l)
    ∙ ap (λ x. is_late settings.transport settings.life x export) (a.greatest ∙ ap (λ n. max n export) g))

pub goes_late : (octets : List ℕ) (header : Header) (old new : Domain) → IsHeader octets header → Arrived header.export old.manager new.manager → new.due ≡ old.due
    → true ≡ is_late new.manager.transport new.manager.life new.manager.greatest header.export → DomainTakes octets old new Late
goes_late octets header old new h a due late m says settings past newest due_before s =
    let export : header.export ≡ m.export = h.export ∙ sym says.export in (
      ap (λ e. is_late settings.transport settings.life (max newest e) e) (sym export)
          ∙ sym (late ∙ late_as settings newest old.manager new.manager header.export a s.templates.transport s.templates.life s.newest_is),
      record { templates = stands_on settings past header.export old.manager new.manager a s.templates; newest_is = a.greatest ∙ (ap (λ n. max n header.export) s.newest_is ∙ ap (max newest) export); due_is = due ∙ s.due_is },
    )

-- what was found in a message, and what it leaves
record Left (settings : Settings) (octets : List ℕ) (export seq newest : ℕ) (past : List (ℕ × Touch)) (due : Option ℕ) (parts : List Part) (new : Domain) (found : Decoded) (t : TakenMessage) : Type 0 where
  gives : Gives settings export seq octets past parts new.manager found
  early : is_late settings.transport settings.life (max newest export) export ≡ false
  greatest : new.manager.greatest ≡ max newest export
  lost : t.lost ≡ cond (is_behind (gap seq due)) 0 (gap seq due)
  behind : t.behind ≡ is_behind (gap seq due)
  due_is : new.due ≡ found.due
  sets : t.sets ≡ found.sets
  counts : t.counts ≡ found.counts

taken_by : {settings : Settings} {octets : List ℕ} {newest : ℕ} {past : List (ℕ × Touch)} {due : Option ℕ} {parts : List Part} {new : Domain} {found : Decoded} {t : TakenMessage}
    → Left settings octets (be32_at 4 octets) (be32_at 8 octets) newest past due parts new found t → FateBy settings octets past newest due (message_of octets parts) new (Taken t)
taken_by {settings} {octets} {newest} {past} {due} {parts} {new} {found} {t} l = (
  l.early,
  record {
    sets = ap (λ x. map (set_of octets) x.items) l.sets ∙ l.gives.sets;
    sound = subst (λ x. AreSound octets x.items) (sym l.sets) l.gives.sound;
    records = ap (λ (c : SetCounts). c.records) l.counts ∙ l.gives.records;
    skipped = ap (λ (c : SetCounts). c.skipped) l.counts ∙ l.gives.skipped;
    ignored = ap (λ (c : SetCounts). c.ignored) l.counts ∙ l.gives.ignored;
    redefined = ap (λ (c : SetCounts). c.redefined) l.counts ∙ l.gives.redefined;
    lost = l.lost;
    behind = l.behind;
  },
  record { templates = l.gives.stands; newest_is = l.greatest; due_is = l.due_is ∙ l.gives.due },
)

-- What was found in a message that isn't late.
pub goes_on : (octets : List ℕ) (header : Header) (old new : Domain) (mid : State) (found : Decoded) (t : TakenMessage) → IsHeader octets header → Arrived header.export old.manager mid
    → false ≡ is_late mid.transport mid.life mid.greatest header.export → Decodes header.export octets header.seq mid new.manager found → new.due ≡ found.due → t.sets ≡ found.sets → t.counts ≡ found.counts
    → t.lost ≡ cond (is_behind (gap header.seq old.due)) 0 (gap header.seq old.due) → t.behind ≡ is_behind (gap header.seq old.due) → DomainTakes octets old new (Taken t)
goes_on octets header old new mid found t h a early d due sets counts lost behind = λ m says settings past newest due_before s.
    let left : Left settings octets header.export header.seq newest past due_before d.parts new found t = record {
      gives = d.gives settings past (stands_on settings past header.export old.manager mid a s.templates);
      early = sym (early ∙ late_as settings newest old.manager mid header.export a s.templates.transport s.templates.life s.newest_is);
      greatest = d.keeps.greatest ∙ (a.greatest ∙ ap (λ n. max n header.export) s.newest_is);
      lost = lost ∙ ap (λ x. cond (is_behind (gap header.seq x)) 0 (gap header.seq x)) s.due_is;
      behind = behind ∙ ap (λ x. is_behind (gap header.seq x)) s.due_is;
      due_is = due;
      sets = sets;
      counts = counts;
    } in
    subst (λ (n : Message). FateBy settings octets past newest due_before n new (Taken t)) (one_says octets (message_of octets d.parts) m d.says says)
    (taken_by (subst (λ e. Left settings octets e (be32_at 8 octets) newest past due_before d.parts new found t) h.export
    (subst (λ q. Left settings octets header.export q newest past due_before d.parts new found t) h.seq left)))
