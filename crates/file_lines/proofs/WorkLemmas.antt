-- What is written of arrivals, one after another.
use Rattle.std.proofs.Common.{◌≡◌, ℕ, true, List, [], ◌∷◌, ◌++◌, Option, refl, ap, sym, subst, ◌∙◌, append-nil}
use Rattle.std.proofs.lemmas.List.Concat.{flat_map-append}
use Rattle.col_base.specs.declared.base.SessionKey.{SessionKey}
use Rattle.col_base.specs.declared.base.Transport.{Transport}
use Rattle.arrival_spec.specs.Arrival.{Arrival}
use Rattle.arrival_spec.specs.Arrival.Arrival.{SessionOpen, SessionClose, Periodic}
use Rattle.text_spec.specs.Builtin.{builtin_rows}
use Rattle.run_spec.specs.Read.{ReadArrival, IsReadAs}
use Rattle.run_spec.specs.Work.{Item, items_of}
use Rattle.run_spec.specs.Result.{item_text, json_text}
use Rattle.run_spec.proofs.MoreLemmas.{one_more_item}
use Rattle.file_lines.specs.declared.open_sessions.OpenSessions.{OpenSessions}
use Rattle.file_lines.specs.declared.texts.Texts.{Texts}
use Rattle.file_lines.specs.Texts.{Clears, Flushes, Wrote}
use Rattle.file_lines.specs.Session.{files, next_item}
use Rattle.file_lines.specs.Sessions.{Works}
use Rattle.file_lines.specs.Work.{Writes}
use Rattle.file_lines.proofs.OpenLemmas.{tick_works}
use Rattle.file_lines.proofs.TextLemmas.{written_more}

-- the text of one arrival more
pub text_more : (read : List ReadArrival) (r : ReadArrival) (text : List ℕ) → text ≡ json_text true builtin_rows (items_of files read) → text ++ item_text true builtin_rows (next_item read r) ≡ json_text true builtin_rows (items_of files (read ++ r ∷ []))
text_more read r text is =
    let item = next_item read r in
    sym (ap (λ (l : List Item). json_text true builtin_rows l) (one_more_item files read r)
    ∙ (flat_map-append (item_text true builtin_rows) (items_of files read) (item ∷ [])
    ∙ (ap (λ t. json_text true builtin_rows (items_of files read) ++ t) (append-nil (item_text true builtin_rows item)) ∙ ap (λ t. t ++ item_text true builtin_rows item) (sym is))))

-- an arrival without a text
pub text_same : (read : List ReadArrival) (r : ReadArrival) (text : List ℕ) → item_text true builtin_rows (next_item read r) ≡ [] → text ≡ json_text true builtin_rows (items_of files read) → text ≡ json_text true builtin_rows (items_of files (read ++ r ∷ []))
text_same read r text none is = sym (ap (λ t. text ++ t) none ∙ append-nil text) ∙ text_more read r text is

module _ {K : Type 0} (held : K → Option (List ℕ)) (faults : K → ℕ) where
  -- an arrival whose lines were put is written
  pub put_writes : (a : Arrival (List ℕ)) (old new : OpenSessions) (before cleared taken after : Texts) (sink now : K) → Clears before cleared → Works a old new cleared taken → Flushes held faults taken after sink now → Writes held faults a old new before after sink now
  put_writes a old new before cleared taken after sink now clears works flushes = λ past text first count d come has.
      let w = works past d.stands come in
      let more = item_text true builtin_rows (next_item past w.read) in
      record {
        read = w.read;
        is = w.is;
        text = text ++ more;
        decoded = record { stands = w.stands; is = text_more past w.read text d.is };
        has = written_more held faults first count text more before cleared taken after sink now clears w.adds flushes has;
      }

  -- and so is one without a text
  still_writes : (a : Arrival (List ℕ)) (old new : OpenSessions) (texts : Texts) (sink : K) → ((past : List ReadArrival) (r : ReadArrival) → IsReadAs a r → item_text true builtin_rows (next_item past r) ≡ []) → Works a old new texts texts → Writes held faults a old new texts texts sink sink
  still_writes a old new texts sink none works = λ past text first count d come has.
      let w = works past d.stands come in
      record { read = w.read; is = w.is; text = text; decoded = record { stands = w.stands; is = text_same past w.read text (none past w.read w.is) d.is }; has = has }

  pub open_writes : (key : SessionKey) (transport : Transport) (old new : OpenSessions) (texts : Texts) (sink : K) → Works (SessionOpen key transport) old new texts texts → Writes held faults (SessionOpen key transport) old new texts texts sink sink
  open_writes key transport old new texts sink works = still_writes (SessionOpen key transport) old new texts sink (λ past r e. ap (λ (x : ReadArrival). item_text true builtin_rows (next_item past x)) e) works

  pub close_writes : (key : SessionKey) (old new : OpenSessions) (texts : Texts) (sink : K) → Works (SessionClose key) old new texts texts → Writes held faults (SessionClose key) old new texts texts sink sink
  close_writes key old new texts sink works = still_writes (SessionClose key) old new texts sink (λ past r e. ap (λ (x : ReadArrival). item_text true builtin_rows (next_item past x)) e) works

  pub tick_writes : (input seconds : ℕ) (sessions : OpenSessions) (texts : Texts) (sink : K) → Writes held faults (Periodic input seconds) sessions sessions texts texts sink sink
  tick_writes input seconds sessions texts sink = still_writes (Periodic input seconds) sessions sessions texts sink (λ past r e. ap (λ (x : ReadArrival). item_text true builtin_rows (next_item past x)) e) (tick_works input seconds sessions texts)
