use Rattle.file_texts.proofs.TextLemmas.{is_put_to, meets_limit}
use Rattle.file_texts.proofs.maker.FileTextsMessageTexts.put.Goals as goal

pub returns-in-Ok-clause-ok : goal.returns-in-Ok-clause-ok
returns-in-Ok-clause-ok c = λ output table items s. is_put_to c.args.message.now output table items c.put_message.new.self (c.in-Ok.ensures.ok output items s)

pub returns-in-Err-clause-err : goal.returns-in-Err-clause-err
returns-in-Err-clause-err c = λ output table items s. c.in-Err.ensures.err output items s

pub returns-in-Err-clause-limit : goal.returns-in-Err-clause-limit
returns-in-Err-clause-limit c = meets_limit c.args.message.now c.args.self.now c.in-Err.fault c.in-Err.ensures.limit
