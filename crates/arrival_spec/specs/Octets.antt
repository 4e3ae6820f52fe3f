-- Events and arrivals whose octets are octets: numbers below 256.
use Rattle.std.specs.Prelude.{ℕ, ◌<◌, List}
use Rattle.std.specs.List.{AllByRecursion}
use Rattle.arrival_spec.specs.declared.event.Scripted.{Scripted}
use Rattle.arrival_spec.specs.declared.event.Scripted.TheVariants as event
use Rattle.arrival_spec.specs.Arrival.{Arrival}
use Rattle.arrival_spec.specs.Arrival.Arrival.{SessionOpen, Raw, SessionClose, Periodic}

abbrev pub AreOctets : List ℕ → Type 0
AreOctets list = AllByRecursion (λ o. o < 256) list

abbrev pub GivesOctets : Scripted → Type 0
GivesOctets (event.Bytes c octets) = AreOctets octets
GivesOctets (event.Datagram key octets) = AreOctets octets
GivesOctets (event.Opened c) = Unit {0}
GivesOctets (event.Closed c) = Unit {0}
GivesOctets (event.Tick seconds) = Unit {0}
GivesOctets event.NotYet = Unit {0}

abbrev pub ArrivesInOctets : Arrival (List ℕ) → Type 0
ArrivesInOctets (Raw key octets) = AreOctets octets
ArrivesInOctets (SessionOpen key transport) = Unit {0}
ArrivesInOctets (SessionClose key) = Unit {0}
ArrivesInOctets (Periodic input seconds) = Unit {0}
