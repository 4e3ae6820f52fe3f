-- Sessions open, take messages and close, one behind another.
use Rattle.std.proofs.Common.{◌≡◌, ℕ, ◌+◌, ◌<◌, ◌≤◌, Bool, true, false, not, ◌&&◌, ◌||◌, List, [], ◌∷◌, ◌++◌, Some, refl, ap, sym, ◌∙◌, arith, append-nil}
use Rattle.std.specs.Prelude.{◌==◌, nat_eq}
use Rattle.std.proofs.lemmas.Bool.{ne_eqb}
use Rattle.col_base.specs.declared.base.SessionKey.{SessionKey}
use Rattle.col_base.specs.declared.base.Transport.{Transport}
use Rattle.arrival_spec.specs.Arrival.Arrival.{SessionOpen, Raw, SessionClose}
use Rattle.arrival_spec.specs.Order.{has_key, open_keys, opened_in, opened_keys, same_key}
use Rattle.arrival_spec.specs.Settings.{Settings}
use Rattle.count_spec.proofs.OpenLemmas.{opened_more}
use Rattle.run_spec.specs.Read.{ReadArrival}
use Rattle.pipeline_message.specs.declared.message.Msg.{Msg}
use Rattle.session_table.specs.declared.arrival.Arrival.TheVariants as gives
use Rattle.parser_lane.specs.declared.parser.Parser.{Parser}
use Rattle.parser_lane.specs.Parsers.{MayCome, Stands, WorksBy}
use Rattle.parser_lane.specs.Session.{HasOpen, MayOpen}
use Rattle.parser_lane.proofs.KeyLemmas.{has_more, open_more, open_here}

-- before any arrival every session may open
pub may_open_first : {settings : Settings} (p : Parser) → Stands settings [] p.sessions → MayOpen 0 p
may_open_first {settings} p s = record { settings = settings; read = []; stands = s; unopened = λ key le. refl }

-- the next session may open
pub may_open : (p : Parser) (key : SessionKey) (transport : Transport) → MayOpen key.number p → MayCome (gives.SessionOpen key transport) p
may_open p key transport m = record { settings = m.settings; read = m.read; stands = λ e. m.stands; comes = ap not (m.unopened key (omega arith)) }

and_false : (a b : Bool) → b ≡ false → a && b ≡ false
and_false true b e = e
and_false false b e = refl

other_number : (k key : SessionKey) → key.number < k.number → same_key k key ≡ false
other_number k key less = and_false (k.input == key.input) (k.number == key.number) (ne_eqb k.number key.number (λ e. omega arith))

or_false : (a b : Bool) → a ≡ false → b ≡ false → a || b ≡ false
or_false a b e f = ap (λ x. x || b) e ∙ f

-- it opens
pub opens : (old new : Parser) (key : SessionKey) (transport : Transport) (msg : Msg) → MayOpen key.number old → WorksBy (Some (SessionOpen key transport)) old.sessions new.sessions msg → HasOpen key new
opens old new key transport msg m w =
    let f = w.2 m.settings m.read m.stands (ap not (m.unopened key (omega arith))) in
    record {
      settings = m.settings;
      read = m.read ++ w.0 ∷ [];
      stands = f.stands;
      is_open = ap (λ r. has_key key (open_keys (m.read ++ r ∷ []))) w.1 ∙ open_here m.read key transport;
      unopened = λ k less.
          ap (λ r. has_key k (opened_keys (m.read ++ r ∷ []))) w.1
          ∙ (ap (has_key k) (opened_more m.read (SessionOpen key transport)) ∙ (has_more k key (opened_keys m.read) ∙ or_false (has_key k (opened_keys m.read)) (same_key k key) (m.unopened k (omega arith)) (other_number k key less)));
    }

nothing_opened : (k : SessionKey) (read : List ReadArrival) (r : ReadArrival) → opened_in r ≡ [] → has_key k (opened_keys read) ≡ false → has_key k (opened_keys (read ++ r ∷ [])) ≡ false
nothing_opened k read r none e = ap (has_key k) (opened_more read r ∙ (ap (λ l. opened_keys read ++ l) none ∙ append-nil (opened_keys read))) ∙ e

-- it takes a message
pub takes : (old new : Parser) (key : SessionKey) (octets : List ℕ) (msg : Msg) → HasOpen key old → WorksBy (Some (Raw key octets)) old.sessions new.sessions msg → HasOpen key new
takes old new key octets msg h w =
    let f = w.2 h.settings h.read h.stands h.is_open in
    record {
      settings = h.settings;
      read = h.read ++ w.0 ∷ [];
      stands = f.stands;
      is_open = ap (λ r. has_key key (open_keys (h.read ++ r ∷ []))) w.1.2 ∙ (ap (has_key key) (open_more h.read (Raw key w.1.0)) ∙ h.is_open);
      unopened = λ k less. nothing_opened k h.read w.0 (ap opened_in w.1.2) (h.unopened k less);
    }

-- it may close
pub may_close : (p : Parser) (key : SessionKey) → HasOpen key p → MayCome (gives.SessionClose key) p
may_close p key h = record { settings = h.settings; read = h.read; stands = λ e. h.stands; comes = h.is_open }

-- it closes, and the next may open
pub closes : (old new : Parser) (key : SessionKey) (msg : Msg) → HasOpen key old → WorksBy (Some (SessionClose key)) old.sessions new.sessions msg → MayOpen (key.number + 1) new
closes old new key msg h w =
    let f = w.2 h.settings h.read h.stands h.is_open in
    record { settings = h.settings; read = h.read ++ w.0 ∷ []; stands = f.stands; unopened = λ k le. nothing_opened k h.read w.0 (ap opened_in w.1) (h.unopened k (omega arith)) }
