use Rattle.std.proofs.Common.{◌∙◌, refl, sym, ap, subst, rules, map}
use Rattle.arrival_spec.specs.Sessions.{is_datagrams}
use Rattle.input_lane.specs.declared.brought.Brought.{Brought}
use Rattle.input_lane.specs.Links.{Link}
use Rattle.input_lane.specs.Brings.{Brings, changed_row}
use Rattle.input_lane.proofs.FindLemmas.{absent}
use Rattle.input_lane.proofs.EventLemmas.{strayed}
use Rattle.input_lane.proofs.BringLemmas.{broken_has, bytes_alive, bytes_broken, bytes_dead, bytes_stray}
use Rattle.input_lane.proofs.state.State.bytes.Goals as goal

pub returns-in-None : goal.returns-in-None
returns-in-None c = λ settings input s k.
    let stream = ap is_datagrams k.transport ∙ (sym c.has_datagrams.ensures ∙ c.if-has_datagrams.false) in
    let none = rw c.in-None.is at c.in_ok-bring.ensures.brings in
    strayed settings input s _ c.args.self.now c.stray-in-None.new.self c.bring.new.self (bytes_stray settings input c.args.conn c.args.octets.now s c.args.self.now c.stray-in-None.new.self k stream (absent c.args.conn s c.args.self.now.links k.links none.0)) k none.1 (search rules)

pub returns-in-Some-Dead : goal.returns-in-Some-Dead
returns-in-Some-Dead c = λ settings input s k.
    let stream = ap is_datagrams k.transport ∙ (sym c.has_datagrams.ensures ∙ c.if-has_datagrams.false) in
    let some = rw c.in-Some-Dead.is at c.in_ok-bring.ensures.brings in
    let b = subst (λ (b : Brought). Brings c.args.self.now.input c.args.conn c.args.octets.now c.args.self.now.links c.bring.new.self c.args.self.now.hand.items c.bring.new.hand.items b) c.in-Some-Dead.field-0-is some in
    bytes_dead settings input c.args.conn c.args.octets.now s c.args.self.now _ k stream b.was c.in_ok-bring.ensures.apart b.found b.brings.0 (b.rows ∙ ap (λ (m : Link). map (changed_row c.args.conn m) c.args.self.now.links) b.brings.1) b.brings.2 refl refl refl refl refl

pub returns-in-Some-Alive : goal.returns-in-Some-Alive
returns-in-Some-Alive c = λ settings input s k.
    let stream = ap is_datagrams k.transport ∙ (sym c.has_datagrams.ensures ∙ c.if-has_datagrams.false) in
    let some = rw c.in-Some-Alive.is at c.in_ok-bring.ensures.brings in
    let b = subst (λ (b : Brought). Brings c.args.self.now.input c.args.conn c.args.octets.now c.args.self.now.links c.bring.new.self c.args.self.now.hand.items c.bring.new.hand.items b) c.in-Some-Alive.field-0-is some in
    bytes_alive settings input c.args.conn c.args.octets.now s c.args.self.now _ k stream b.was b.now c.in_ok-bring.ensures.apart b.found b.brings b.rows refl refl refl refl refl

pub returns-in_ok-put-in-Some : goal.returns-in_ok-put-in-Some
returns-in_ok-put-in-Some c = λ settings input s k.
    let stream = ap is_datagrams k.transport ∙ (sym c.has_datagrams.ensures ∙ c.if-has_datagrams.false) in
    let some = rw c.in-Some-Broken.is at c.in_ok-bring.ensures.brings in
    let b = subst (λ (b : Brought). Brings c.args.self.now.input c.args.conn c.args.octets.now c.args.self.now.links c.bring.new.self c.args.self.now.hand.items c.bring.new.hand.items b) c.in-Some-Broken.field-0-is some in
    bytes_broken settings input c.args.conn c.args.octets.now s c.args.self.now _ k stream b.was b.now c.bring.new.hand.items c.in-Some.key c.in_ok-bring.ensures.apart b.found b.brings b.rows refl refl refl
    (record { gone = c.disconnect.ensures.gone; found = rw c.in-Some.is at c.disconnect.ensures.found }) c.in_ok-put-in-Some.ensures (search rules)

pub returns-in-None-disconnect : goal.returns-in-None-disconnect
returns-in-None-disconnect c = λ settings input s k.
    let stream = ap is_datagrams k.transport ∙ (sym c.has_datagrams.ensures ∙ c.if-has_datagrams.false) in
    let some = rw c.in-Some-Broken.is at c.in_ok-bring.ensures.brings in
    let b = subst (λ (b : Brought). Brings c.args.self.now.input c.args.conn c.args.octets.now c.args.self.now.links c.bring.new.self c.args.self.now.hand.items c.bring.new.hand.items b) c.in-Some-Broken.field-0-is some in
    absurd (broken_has settings input c.args.conn c.args.octets.now s c.args.self.now c.args.self.now k stream b.was b.now c.bring.new.hand.items c.in_ok-bring.ensures.apart b.found b.brings (rw c.in-None-disconnect.is at c.disconnect.ensures.found))
