-- The open sessions stand for one arrival more.
use Rattle.std.proofs.Common.{◌≡◌, ℕ, Bool, true, false, cond, List, [], ◌∷◌, ◌++◌, Some, None, refl, ap, sym, subst, ◌∙◌, append-nil}
use Rattle.std.specs.Prelude.{Option, Result, Ok, Err}
use Rattle.std.proofs.lemmas.Bool.{true≢false}
use Rattle.indexmap.specs.IndexMap.{get}
use Rattle.col_base.specs.declared.base.SessionKey.{SessionKey}
use Rattle.col_base.specs.declared.base.Transport.{Transport}
use Rattle.wire_spec.specs.declared.malformed.Malformed.{Malformed}
use Rattle.wire_spec.specs.Content.{Message}
use Rattle.arrival_spec.specs.Arrival.Arrival.{SessionOpen, Raw, SessionClose, Periodic}
use Rattle.arrival_spec.specs.Order.{same_key, has_key, open_keys, opened_keys}
use Rattle.text_spec.specs.Builtin.{builtin_rows}
use Rattle.run_spec.specs.Read.{ReadArrival}
use Rattle.run_spec.specs.Judge.{message_of, messages_of}
use Rattle.run_spec.specs.Work.{Item}
use Rattle.run_spec.specs.Result.{item_text}
use Rattle.run_spec.proofs.ApartLemmas.{same_is, own_is}
use Rattle.count_spec.proofs.OpenLemmas.{not_true}
use Rattle.parser_lane.specs.Parsers.{CanCome}
use Rattle.parser_lane.proofs.ArrivalLemmas.{messages_more}
use Rattle.parser_lane.proofs.KeyLemmas.{open_more, same_turned, other_key, opened_later, unopened_before, open_here, open_away, close_here, close_away}
use Rattle.file_templates.specs.SessionTemplates.{StandFor}
use Rattle.file_lines.specs.declared.open_sessions.Session.{Session}
use Rattle.file_lines.specs.declared.open_sessions.OpenSessions.{OpenSessions}
use Rattle.file_lines.specs.declared.texts.Texts.{Texts}
use Rattle.file_lines.specs.Texts.{AddsText}
use Rattle.file_lines.specs.Session.{TakesNext}
use Rattle.file_lines.specs.Sessions.{SessionAt, StandsFor, Works}
use Rattle.file_lines.proofs.TextLemmas.{adds_none}

-- an arrival that brings a session no message
quiet : (read : List ReadArrival) (r : ReadArrival) (k : SessionKey) → message_of k r ≡ [] → messages_of k (read ++ r ∷ []) ≡ messages_of k read
quiet read r k none = messages_more k read r ∙ (ap (λ l. messages_of k read ++ l) none ∙ append-nil (messages_of k read))

still : (read : List ReadArrival) (r : ReadArrival) (k : SessionKey) (o : Option Session) → message_of k r ≡ [] → has_key k (open_keys (read ++ r ∷ [])) ≡ has_key k (open_keys read) → SessionAt read k o → SessionAt (read ++ r ∷ []) k o
still read r k None none same at = same ∙ at
still read r k (Some s) none same at = (same ∙ at.0, subst (λ (l : List Message). StandFor s.domains l) (sym (quiet read r k none)) at.1)

-- they stand for one arrival more where each session does
stands_later : (read : List ReadArrival) (r : ReadArrival) (old new : OpenSessions) → StandsFor old read → ((k : SessionKey) → has_key k (opened_keys read) ≡ false → message_of k r ≡ []) → ((k : SessionKey) → SessionAt (read ++ r ∷ []) k (get same_key new.rows k))
    → StandsFor new (read ++ r ∷ [])
stands_later read r old new s none each = record {
  each = each;
  opened = λ k. opened_later read r k (s.opened k);
  fresh = λ k e. let before = unopened_before read r k e in quiet read r k (none k before) ∙ s.fresh k before;
}

-- where a session is now another, or none
elsewhere : (read : List ReadArrival) (r : ReadArrival) (key : SessionKey) (old : OpenSessions) (now : Option Session) → StandsFor old read → SessionAt (read ++ r ∷ []) key now
    → ((k : SessionKey) → same_key key k ≡ false → message_of k r ≡ []) → ((k : SessionKey) → same_key key k ≡ false → has_key k (open_keys (read ++ r ∷ [])) ≡ has_key k (open_keys read))
    → (k : SessionKey) (b : Bool) → same_key key k ≡ b → SessionAt (read ++ r ∷ []) k (cond b now (get same_key old.rows k))
elsewhere read r key old now s here none same k true e = subst (λ n. SessionAt (read ++ r ∷ []) n now) (same_is key k e) here
elsewhere read r key old now s here none same k false e = still read r k (get same_key old.rows k) (none k e) (same k e) (s.each k)

abbrev IsUpdated : SessionKey → Option Session → OpenSessions → OpenSessions → Type 0
IsUpdated key now old new = (k : SessionKey) → get same_key new.rows k ≡ cond (same_key key k) now (get same_key old.rows k)

each_later : (read : List ReadArrival) (r : ReadArrival) (key : SessionKey) (old new : OpenSessions) (now : Option Session) → IsUpdated key now old new → ((k : SessionKey) (b : Bool) → same_key key k ≡ b → SessionAt (read ++ r ∷ []) k (cond b now (get same_key old.rows k)))
    → (k : SessionKey) → SessionAt (read ++ r ∷ []) k (get same_key new.rows k)
each_later read r key old new now updates at k = subst (SessionAt (read ++ r ∷ []) k) (sym (updates k)) (at k (same_key key k) refl)

-- a session opens
pub open_works : (key : SessionKey) (transport : Transport) (old new : OpenSessions) (fresh : Session) (texts : Texts) → IsUpdated key (Some fresh) old new → StandFor fresh.domains [] → Works (SessionOpen key transport) old new texts texts
open_works key transport old new fresh texts updates begins = λ past s come.
    let r : ReadArrival = SessionOpen key transport in
    let unopened = s.fresh key (not_true (has_key key (opened_keys past)) come) in
    let here : SessionAt (past ++ r ∷ []) key (Some fresh) = (open_here past key transport, subst (λ (l : List Message). StandFor fresh.domains l) (sym (quiet past r key refl ∙ unopened)) begins) in
    record {
      read = r;
      is = refl;
      stands = stands_later past r old new s (λ k e. refl) (each_later past r key old new (Some fresh) updates (elsewhere past r key old (Some fresh) s here (λ k e. refl) (λ k e. open_away past key k transport (same_turned key k e))));
      adds = adds_none texts;
    }

-- a session closes
pub close_works : (key : SessionKey) (old new : OpenSessions) (texts : Texts) → IsUpdated key None old new → Works (SessionClose key) old new texts texts
close_works key old new texts updates = λ past s come.
    let r : ReadArrival = SessionClose key in
    record {
      read = r;
      is = refl;
      stands = stands_later past r old new s (λ k e. refl) (each_later past r key old new None updates (elsewhere past r key old None s (close_here past key) (λ k e. refl) (λ k e. close_away past key k (same_turned key k e))));
      adds = adds_none texts;
    }

-- seconds passed
pub tick_works : (input seconds : ℕ) (sessions : OpenSessions) (texts : Texts) → Works (Periodic input seconds) sessions sessions texts texts
tick_works input seconds sessions texts = λ past s come.
    let r : ReadArrival = Periodic input seconds in
    record {
      read = r;
      is = refl;
      stands = stands_later past r sessions sessions s (λ k e. refl) (λ k. still past r k (get same_key sessions.rows k) refl (ap (has_key k) (open_more past r)) (s.each k));
      adds = adds_none texts;
    }

away : (key k : SessionKey) (reading : Result Message Malformed) → same_key key k ≡ false → message_of k (Raw key reading) ≡ []
away key k (Ok m) e = ap (λ b. cond b (m ∷ []) []) e
away key k (Err fault) e = refl

-- a session takes a message
pub raw_works : (key : SessionKey) (octets : List ℕ) (old new : OpenSessions) (before after : Session) (texts next : Texts) → get same_key old.rows key ≡ Some before → IsUpdated key (Some after) old new → TakesNext key octets before.domains after.domains texts next
    → Works (Raw key octets) old new texts next
raw_works key octets old new before after texts next found updates n = λ past s come.
    let r : ReadArrival = Raw key n.reading in
    let at : SessionAt past key (Some before) = subst (SessionAt past key) found (s.each key) in
    let here : SessionAt (past ++ r ∷ []) key (Some after) = (ap (has_key key) (open_more past r) ∙ at.0, n.stand past at.1) in
    record {
      read = r;
      is = (n.reading, n.reads, refl);
      stands = stands_later past r old new s (λ k un. away key k n.reading (other_key key k (opened_keys past) (s.opened key come) un))
          (each_later past r key old new (Some after) updates (elsewhere past r key old (Some after) s here (λ k e. away key k n.reading e) (λ k e. ap (has_key k) (open_more past r))));
      adds = subst (λ (i : Item). AddsText texts next (item_text true builtin_rows i)) (sym (n.gives past at.1)) n.adds;
    }

-- a message of no session never comes
pub raw_missing : (key : SessionKey) (octets : List ℕ) (old new : OpenSessions) (texts next : Texts) → get same_key old.rows key ≡ None → Works (Raw key octets) old new texts next
raw_missing key octets old new texts next none = λ past s come. let at : SessionAt past key None = subst (SessionAt past key) none (s.each key) in absurd (true≢false (sym come ∙ at))

-- none is open
pub none_stands : (sessions : OpenSessions) → ((k : SessionKey) → get same_key sessions.rows k ≡ None) → StandsFor sessions []
none_stands sessions none = record { each = λ k. subst (SessionAt [] k) (sym (none k)) refl; opened = λ k e. e; fresh = λ k e. refl }
