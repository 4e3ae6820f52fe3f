use Rattle.std.proofs.lemmas.Str.Pattern.{split_once_first}
use Rattle.setting_texts.proofs.CutLemmas.{cut_once}
use Rattle.setting_texts.proofs.marks.cut.Goals as goal

pub returns : goal.returns
returns c = cut_once c.args.mark c.args.text.now c.split_once.result (split_once_first c.args.mark c.args.text.now c.split_once.result c.split_once.ensures.cases c.requires)
