use Rattle.std.proofs.Common.{◌≡◌, ◌∙◌, ◌++◌, ◌∷◌, [], true, refl, sym, ap, rules}
use Rattle.arrival_spec.specs.Arrival.Arrival.{Raw}
use Rattle.arrival_spec.specs.Sessions.{is_datagrams}
use Rattle.input_lane.specs.Hands.{meant}
use Rattle.input_lane.proofs.EventLemmas.{heard_taken, comes_taken, dropped_taken}
use Rattle.input_lane.proofs.state.State.datagram.Goals as goal

pub returns-in_ok-put_message-in-Known : goal.returns-in_ok-put_message-in-Known
returns-in_ok-put_message-in-Known c = λ settings input s k.
    let yes : c.has_datagrams.result ≡ true = search rules in
    let udp = ap is_datagrams k.transport ∙ (sym c.has_datagrams.ensures ∙ yes) in
    let new = rw c.in-Known.is at c.in_ok-key.ensures.ok in
    let hand = c.in_ok-put_message-in-Known.ensures ∙ ap (λ o. meant c.args.self.now.hand.items ++ Raw c.in-Known.key o ∷ []) c.in_ok-message-in-Known.ensures in
    heard_taken settings input c.args.peer c.args.octets.now s c.args.self.now _ c.in-Known.key k udp new refl refl refl refl hand refl

pub returns-in_ok-put_message-in-New : goal.returns-in_ok-put_message-in-New
returns-in_ok-put_message-in-New c = λ settings input s k.
    let yes : c.has_datagrams.result ≡ true = search rules in
    let udp = ap is_datagrams k.transport ∙ (sym c.has_datagrams.ensures ∙ yes) in
    let new = rw c.in-New.is at c.in_ok-key.ensures.ok in
    let hand = c.in_ok-put_message-in-New.ensures ∙ ap (λ o. meant c.put.new.hand.items ++ Raw c.in-New.key o ∷ []) c.in_ok-message-in-New.ensures in
    comes_taken settings input c.args.peer c.args.octets.now s c.args.self.now _ c.put.new.hand.items c.in-New.key k udp new refl refl refl refl c.in_ok-put-in-New.ensures hand (search rules)

pub returns-in-Refused : goal.returns-in-Refused
returns-in-Refused c = λ settings input s k.
    let yes : c.has_datagrams.result ≡ true = search rules in
    let udp = ap is_datagrams k.transport ∙ (sym c.has_datagrams.ensures ∙ yes) in
    let new = rw c.in-Refused.is at c.in_ok-key.ensures.ok in
    dropped_taken settings input c.args.peer c.args.octets.now s c.args.self.now _ k udp new refl refl refl refl refl (search rules)
