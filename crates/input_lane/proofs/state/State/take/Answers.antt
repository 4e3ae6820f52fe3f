use Rattle.arrival_spec.specs.declared.event.Scripted.TheVariants as scripted
use Rattle.std.proofs.Common.{◌∙◌, ap, sym, take}
use Rattle.site_io.specs.Events.{event_in}
use Rattle.input_lane.proofs.EventLemmas.{as_given}
use Rattle.input_lane.proofs.state.State.take.Goals as goal

pub returns-in_ok-opened-in-Opened : goal.returns-in_ok-opened-in-Opened
returns-in_ok-opened-in-Opened c = λ e at is. as_given (scripted.Opened c.in-Opened.conn) e c.args.self.now c.opened.new.self (sym (ap (event_in c.args.room.now) c.in-Opened.is) ∙ at) c.in_ok-opened-in-Opened.ensures

pub returns-in_ok-closed-in-Closed : goal.returns-in_ok-closed-in-Closed
returns-in_ok-closed-in-Closed c = λ e at is. as_given (scripted.Closed c.in-Closed.conn) e c.args.self.now c.closed.new.self (sym (ap (event_in c.args.room.now) c.in-Closed.is) ∙ at) c.in_ok-closed-in-Closed.ensures

pub returns-in_ok-datagram-in-Datagram : goal.returns-in_ok-datagram-in-Datagram
returns-in_ok-datagram-in-Datagram c = λ e at is. as_given (scripted.Datagram c.in-Datagram.peer (take c.in-Datagram.n c.args.room.now)) e c.args.self.now c.datagram.new.self (sym (ap (event_in c.args.room.now) c.in-Datagram.is) ∙ at) c.in_ok-datagram-in-Datagram.ensures

pub returns-in_ok-tick-in-Tick : goal.returns-in_ok-tick-in-Tick
returns-in_ok-tick-in-Tick c = λ e at is. as_given (scripted.Tick c.in-Tick.seconds) e c.args.self.now c.tick.new.self (sym (ap (event_in c.args.room.now) c.in-Tick.is) ∙ at) c.in_ok-tick-in-Tick.ensures

pub returns-in_ok-bytes-in-Bytes : goal.returns-in_ok-bytes-in-Bytes
returns-in_ok-bytes-in-Bytes c = λ e at is. as_given (scripted.Bytes c.in-Bytes.conn (take c.in-Bytes.n c.args.room.now)) e c.args.self.now c.bytes.new.self (sym (ap (event_in c.args.room.now) c.in-Bytes.is) ∙ at) c.in_ok-bytes-in-Bytes.ensures
