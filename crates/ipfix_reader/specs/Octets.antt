-- What callers see of a message: its octets.
use Rattle.std.specs.Prelude.{ℕ, List}
use Rattle.ipfix_reader.specs.declared.message.Message.{Message}

abbrev pub octets_of : Message → List ℕ
octets_of message = message.octets.now
