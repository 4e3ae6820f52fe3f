use Rattle.text_output.proofs.ItemLemmas.{puts_own}
use Rattle.text_output.proofs.output.TextOutputMessageTexts.put.Goals as goal

pub returns-in-Ok-clause-ok : goal.returns-in-Ok-clause-ok
returns-in-Ok-clause-ok c = λ output table items m. puts_own output table items c.args.self.now c.put_message.new.self c.args.message.now m c.put_message.ensures.stays c.in-Ok.ensures.ok
