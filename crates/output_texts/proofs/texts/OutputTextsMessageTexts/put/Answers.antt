use Rattle.std.proofs.Common.{sym, subst}
use Rattle.std.specs.Result.{OnOk, OnErr, IfErr}
use Rattle.std.proofs.lemmas.Result.{on_ok_weaker, on_err_weaker, IfErr-weaker}
use Rattle.message_texts.specs.Puts.{Puts, Keeps, MeetsLimit}
use Rattle.output_texts.specs.declared.texts.OutputTexts.{OutputTexts}
use Rattle.output_texts.specs.declared.texts.OutputTexts.TheVariants.{Text, File}
use Rattle.output_texts.specs.Texts.{Stands, text_of}
use Rattle.output_texts.proofs.WithinLemmas.{around_text, around_file, puts_around, keeps_around, limit_around}
use Rattle.output_texts.proofs.texts.OutputTextsMessageTexts.put.Goals as goal

pub returns-in-Text-clause-ok : goal.returns-in-Text-clause-ok
returns-in-Text-clause-ok c =
    subst (λ (old : OutputTexts). OnOk c.put.result (Puts Stands text_of c.args.message.now old (Text c.put.new.self))) (sym c.in-Text.is)
    (on_ok_weaker c.put.result (puts_around around_text c.args.message.now c.in-Text.texts c.put.new.self) c.put.ensures.ok)

pub returns-in-Text-clause-err : goal.returns-in-Text-clause-err
returns-in-Text-clause-err c =
    subst (λ (old : OutputTexts). OnErr c.put.result (Keeps Stands old (Text c.put.new.self))) (sym c.in-Text.is)
    (on_err_weaker c.put.result (keeps_around around_text c.args.message.now c.in-Text.texts c.put.new.self) c.put.ensures.err)

pub returns-in-File-clause-ok : goal.returns-in-File-clause-ok
returns-in-File-clause-ok c =
    subst (λ (old : OutputTexts). OnOk c.put-in-File.result (Puts Stands text_of c.args.message.now old (File c.put-in-File.new.self))) (sym c.in-File.is)
    (on_ok_weaker c.put-in-File.result (puts_around around_file c.args.message.now c.in-File.texts c.put-in-File.new.self) c.put-in-File.ensures.ok)

pub returns-in-File-clause-err : goal.returns-in-File-clause-err
returns-in-File-clause-err c =
    subst (λ (old : OutputTexts). OnErr c.put-in-File.result (Keeps Stands old (File c.put-in-File.new.self))) (sym c.in-File.is)
    (on_err_weaker c.put-in-File.result (keeps_around around_file c.args.message.now c.in-File.texts c.put-in-File.new.self) c.put-in-File.ensures.err)

pub returns-in-File-clause-limit : goal.returns-in-File-clause-limit
returns-in-File-clause-limit c =
    subst (λ (old : OutputTexts). IfErr c.put-in-File.result (λ f. MeetsLimit Stands f c.args.message.now old)) (sym c.in-File.is)
    (IfErr-weaker c.put-in-File.result _ _ (limit_around around_file c.args.message.now c.in-File.texts c.put-in-File.new.self) c.put-in-File.ensures.limit)
