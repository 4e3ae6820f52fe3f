-- The log and the output, one message more.
use Rattle.std.proofs.Common.{◌≡◌, ℕ, Bool, true, false, List, [], ◌∷◌, ◌++◌, Option, Some, None, map, refl, ap, sym, subst, ◌∙◌, append_assoc, append-nil}
use Rattle.std.specs.Prelude.{MatchOption, IsSome, is_some, is_none}
use Rattle.std.specs.List.{cons_option}
use Rattle.std.proofs.lemmas.List.{map-append}
use Rattle.config_spec.specs.declared.conf.OutputConf.{OutputConf}
use Rattle.text_spec.specs.declared.element.Element.{Element}
use Rattle.run_spec.specs.Work.{Item}
use Rattle.site_io.specs.declared.outside.OutsideFault.{OutsideFault}
use Rattle.pipeline_message.specs.declared.message.Msg.{Msg}
use Rattle.pipeline_message.specs.Items.{item_of, items_of}
use Rattle.order_log.specs.declared.order_log.OrderLog.{OrderLog}
use Rattle.order_log.specs.Entries.{Enters, Stands}
use Rattle.logged_outputs.specs.Entries.{Entry, entries_of, items_in, order_of, Takes}
use Rattle.logged_outputs.proofs.EntryLemmas.{entry, entry_one}
use Rattle.logged_outputs.specs.declared.logged.LoggedOutputs.{LoggedOutputs}
use Rattle.logged_outputs.specs.Logs.{EntersLog, LogTook, goes_on, next_of}
use Rattle.logged_outputs.specs.Logged.{Took}
use Rattle.logged_outputs.specs.Behind.{ItemsWent, PutsItems}

none_next : (rest : List Entry) → next_of rest ≡ None → rest ≡ []
none_next [] e = refl
none_next (x ∷ rest) e = absurd cc

pub none_of : {X : Type 0} (o : Option X) → is_some o ≡ false → o ≡ None
none_of None e = refl
none_of (Some x) e = absurd cc

still_next : (rest : List Entry) (x : Entry) → is_some (next_of rest) ≡ true → next_of (rest ++ x ∷ []) ≡ next_of rest
still_next [] x e = absurd cc
still_next (y ∷ rest) x e = refl

order_more : (front : List Entry) (x : Entry) → order_of (front ++ x ∷ []) ≡ order_of front ++ x.input ∷ []
order_more front x = map-append (λ (y : Entry). y.input) front (x ∷ [])

module _ {K : Type 0} (held : K → Option (List ℕ)) (faults : K → ℕ) (front rest : List Entry) (x : Entry) where
  -- an entry was taken: nothing had stopped the log
  took_entry : (first old new : Option (OrderLog K)) → LogTook held faults front rest first old → EntersLog held faults x.input old new → goes_on new ≡ true → (rest ≡ []) × LogTook held faults (front ++ x ∷ []) [] first new
  took_entry None None None l e g = (l, refl)
  took_entry None None (Some n) l e g = absurd e
  took_entry None (Some o) new l e g = absurd l
  took_entry (Some f) None new l e g = absurd l
  took_entry (Some f) (Some o) None l e g = absurd e
  took_entry (Some f) (Some o) (Some n) l e g = by_fault o.fault refl
    where
      by_fault : (h : Option OutsideFault) → o.fault ≡ h → (rest ≡ []) × Stands held faults f.sink (order_of (front ++ x ∷ [])) None n
      by_fault None is =
          let none : rest ≡ [] = none_next rest (none_of (next_of rest) (sym l.ended ∙ ap is_some is)) in
          let before : Stands held faults f.sink (order_of front) None o = subst (λ r. Stands held faults f.sink (order_of front) (next_of r) o) none l in
          let after = subst (λ (h : Option OutsideFault). MatchOption h (Stands held faults f.sink (order_of front ++ x.input ∷ []) None n) (λ _. Stands held faults f.sink (order_of front) (Some x.input) n)) (none_is n.fault g) (e.0 f.sink (order_of front) before) in
          (none, subst (λ r. Stands held faults f.sink r None n) (sym (order_more front x)) after)
        where
          none_is : (h : Option OutsideFault) → is_none h ≡ true → h ≡ None
          none_is None e = refl
          none_is (Some q) e = absurd cc
      by_fault (Some q) is =
          let same : n ≡ o = e.1 (subst (λ (h : Option OutsideFault). IsSome h) (sym is) refl) in
          absurd (let wrong : false ≡ true = sym (ap (λ (m : OrderLog K). is_none m.fault) same ∙ ap is_none is) ∙ g in cc)

  -- the log has ended at it, or before it
  stopped : (first old new : Option (OrderLog K)) → LogTook held faults front rest first old → EntersLog held faults x.input old new → goes_on new ≡ false → LogTook held faults front (rest ++ x ∷ []) first new
  stopped None None None l e g = absurd cc
  stopped None None (Some n) l e g = absurd e
  stopped None (Some o) new l e g = absurd l
  stopped (Some f) None new l e g = absurd l
  stopped (Some f) (Some o) None l e g = absurd e
  stopped (Some f) (Some o) (Some n) l e g = by_fault o.fault refl
    where
      by_new : (h : Option OutsideFault) → is_none h ≡ false → MatchOption h (Stands held faults f.sink (order_of front ++ x.input ∷ []) None n) (λ _. Stands held faults f.sink (order_of front) (Some x.input) n) → Stands held faults f.sink (order_of front) (Some x.input) n
      by_new None g m = absurd cc
      by_new (Some q) g m = m

      by_fault : (h : Option OutsideFault) → o.fault ≡ h → Stands held faults f.sink (order_of front) (next_of (rest ++ x ∷ [])) n
      by_fault None is =
          let none : rest ≡ [] = none_next rest (none_of (next_of rest) (sym l.ended ∙ ap is_some is)) in
          let before : Stands held faults f.sink (order_of front) None o = subst (λ r. Stands held faults f.sink (order_of front) (next_of r) o) none l in
          subst (λ r. Stands held faults f.sink (order_of front) (next_of (r ++ x ∷ [])) n) (sym none) (by_new n.fault g (e.0 f.sink (order_of front) before))
      by_fault (Some q) is =
          let same : n ≡ o = e.1 (subst (λ (h : Option OutsideFault). IsSome h) (sym is) refl) in
          subst (λ (m : OrderLog K). Stands held faults f.sink (order_of front) (next_of (rest ++ x ∷ [])) m) (sym same)
          (subst (λ r. Stands held faults f.sink (order_of front) r o) (sym (still_next rest x (sym l.ended ∙ ap is_some is))) l)

module _ {T K : Type 0} (stands : OutputConf → List Element → List Item → T → Type 0) (held : K → Option (List ℕ)) (total : K → Option ℕ) (faults : K → ℕ) where
  -- the texts of a message were written
  pub take_written : (input : ℕ) (msg : Msg) (item : Item) (old new : LoggedOutputs T K) → item_of msg ≡ Some item → EntersLog held faults input old.log new.log → goes_on new.log ≡ true → PutsItems stands held total faults msg old.outputs new.outputs
      → Takes (Took stands held total faults) (entries_of input msg) old new
  take_written input msg item old new is e g p first entries t =
      let x = entry input item in
      let l = took_entry held faults t.front t.rest x first.log old.log new.log t.logged e g in
      let one : entries_of input msg ≡ x ∷ [] = entry_one input msg item is in
      record {
        front = t.front ++ x ∷ [];
        rest = [];
        whole = ap (λ m. entries ++ m) one ∙ (ap (λ m. m ++ x ∷ []) (t.whole ∙ (ap (λ r. t.front ++ r) l.0 ∙ append-nil t.front)) ∙ sym (append-nil (t.front ++ x ∷ [])));
        logged = l.1;
        written =
            subst (λ items. ItemsWent stands held total faults items first.outputs new.outputs) (ap (λ o. items_in t.front ++ cons_option o []) is ∙ sym (map-append (λ (y : Entry). y.item) t.front (x ∷ [])))
            (p first.outputs (items_in t.front) t.written);
      }

  -- they were not
  pub take_unwritten : (input : ℕ) (msg : Msg) (item : Item) (old new : LoggedOutputs T K) → item_of msg ≡ Some item → EntersLog held faults input old.log new.log → goes_on new.log ≡ false → new.outputs ≡ old.outputs
      → Takes (Took stands held total faults) (entries_of input msg) old new
  take_unwritten input msg item old new is e g same first entries t =
      let x = entry input item in
      let one : entries_of input msg ≡ x ∷ [] = entry_one input msg item is in
      record {
        front = t.front;
        rest = t.rest ++ x ∷ [];
        whole = ap (λ m. entries ++ m) one ∙ (ap (λ m. m ++ x ∷ []) t.whole ∙ append_assoc t.front t.rest (x ∷ []));
        logged = stopped held faults t.front t.rest x first.log old.log new.log t.logged e g;
        written = subst (λ o. ItemsWent stands held total faults (items_in t.front) first.outputs o) (sym same) t.written;
      }

-- the item of a message that stands for one
pub item_is : (o : Option Item) → IsSome o → (i : Item) × (o ≡ Some i)
item_is None some = absurd (let wrong : is_some {T = Item} None ≡ true = some in cc)
item_is (Some i) some = (i, refl)
