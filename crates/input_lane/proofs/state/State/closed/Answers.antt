use Rattle.std.proofs.Common.{◌∙◌, ℕ, refl, sym, ap}
use Rattle.arrival_spec.specs.Sessions.{is_datagrams}
use Rattle.input_lane.specs.declared.tally.Tally.{Tally}
use Rattle.input_lane.specs.Links.{stream_link}
use Rattle.input_lane.proofs.LinkLemmas.{torn_same}
use Rattle.input_lane.proofs.FindLemmas.{absent, none_goes}
use Rattle.input_lane.proofs.EventLemmas.{closed_none, closed_taken, dead_taken, strayed}
use Rattle.input_lane.proofs.state.State.closed.Goals as goal

pub returns-in-None : goal.returns-in-None
returns-in-None c = λ settings input s k.
    let stream = ap is_datagrams k.transport ∙ (sym c.has_datagrams.ensures ∙ c.if-has_datagrams.false) in
    let none = c.in-None.ensures.found in
    strayed settings input s _ c.args.self.now c.stray-in-None.new.self c.close.new.self (closed_none settings input c.args.conn s stream (absent c.args.conn s c.args.self.now.links k.links none)) k
    (c.in-None.ensures.others ∙ none_goes c.args.conn c.args.self.now.links none) c.stray-in-None.ensures

pub returns-in-Some-disconnect : goal.returns-in-Some-disconnect
returns-in-Some-disconnect c = λ settings input s k.
    let stream = ap is_datagrams k.transport ∙ (sym c.has_datagrams.ensures ∙ c.if-has_datagrams.false) in
    let torn = c.torn-self.ensures ∙ torn_same c.args.self.now.tally.torn c.args.conn c.in-Some.stream in
    let with_torn : ℕ → Tally = λ n. record c.args.self.now.tally { torn = n } in
    closed_taken settings input c.args.conn s c.args.self.now _ (stream_link c.args.conn c.in-Some.stream) k stream c.in-Some.ensures.apart c.in-Some.ensures.found refl refl refl
    c.in-Some.ensures.others (ap with_torn torn) c.in-Some-disconnect.key
    (record { gone = c.disconnect.ensures.gone; found = rw c.in-Some-disconnect.is at c.disconnect.ensures.found }) c.in_ok-put-in-Some-disconnect.ensures

pub returns : goal.returns
returns c = λ settings input s k.
    let stream = ap is_datagrams k.transport ∙ (sym c.has_datagrams.ensures ∙ c.if-has_datagrams.false) in
    let torn = c.torn-self.ensures ∙ torn_same c.args.self.now.tally.torn c.args.conn c.in-Some.stream in
    let with_torn : ℕ → Tally = λ n. record c.args.self.now.tally { torn = n } in
    dead_taken settings input c.args.conn s c.args.self.now _ (stream_link c.args.conn c.in-Some.stream) k stream c.in-Some.ensures.apart c.in-Some.ensures.found refl refl refl
    c.in-Some.ensures.others (ap with_torn torn)
    (record { gone = c.disconnect.ensures.gone; found = rw c.in-None-disconnect.is at c.disconnect.ensures.found }) refl
