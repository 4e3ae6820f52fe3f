use Rattle.described_texts.proofs.ReadLemmas.{texts_same}
use Rattle.described_texts.proofs.read.read_text.Goals as goal

pub returns-in-Ok-clause-texts : goal.returns-in-Ok-clause-texts
returns-in-Ok-clause-texts g c = texts_same c.args.name.now _ _ c.in-Ok.ensures.read.1 c.in-Ok.ensures.others.others

pub returns-in-Err-NoMemory-clause-texts : goal.returns-in-Err-NoMemory-clause-texts
returns-in-Err-NoMemory-clause-texts g c = texts_same c.args.name.now _ _ (rw c.in-Err-NoMemory.field-0-is at c.in-Err-NoMemory.ensures.read) c.in-Err-NoMemory.ensures.others.others
