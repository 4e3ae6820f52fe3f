use Rattle.ipfix_reader.proofs.LeftLemmas.{message_sets}
use Rattle.ipfix_reader.proofs.message.Message.sets.Goals as goal

pub new-requires-clause-whole : goal.new-requires-clause-whole
new-requires-clause-whole c = message_sets c.args.self.now.octets.now c.args.self.now.whole
