-- What sources over sockets may answer, whatever comes over the network.
use Rattle.std.specs.Prelude.{ℕ, ◌≡◌, ◌≢◌, ⊤, Option, Some, IsSome, Result, Ok, Err}
use Rattle.site_io.specs.declared.outside.OutsideFault.{OutsideFault}
use Rattle.site_io.specs.declared.source.SourceEvent.{SourceEvent}
use Rattle.site_io.specs.declared.source.SourceEvent.TheVariants as event

-- the seconds that were told last, before and after an answer: a tick tells seconds that were not told last, and any other
-- event comes only once some were told
abbrev pub Tells : Option ℕ → Option ℕ → Result SourceEvent OutsideFault → Type 0
Tells old new (Ok (event.Tick seconds)) = (old ≢ Some seconds) × (new ≡ Some seconds)
Tells old new (Ok other) = (new ≡ old) × IsSome old
Tells old new (Err fault) = new ≡ old

-- the event is one of a stream of octets
abbrev pub IsOfStream : SourceEvent → Type 0
IsOfStream (event.Opened connection) = ⊤
IsOfStream (event.Bytes connection n) = ⊤
IsOfStream (event.Closed connection) = ⊤
IsOfStream _ = ⊥

-- the event is a datagram
abbrev pub IsDatagram : SourceEvent → Type 0
IsDatagram (event.Datagram peer n) = ⊤
IsDatagram _ = ⊥

-- what a source of datagrams tells: datagrams, seconds, and that nothing was ready
abbrev pub IsOfPeers : SourceEvent → Type 0
IsOfPeers (event.Datagram peer n) = ⊤
IsOfPeers (event.Tick seconds) = ⊤
IsOfPeers event.NotYet = ⊤
IsOfPeers _ = ⊥
