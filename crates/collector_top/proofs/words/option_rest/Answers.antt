use Rattle.collector_top.proofs.WordLemmas.{rest_stripped}
use Rattle.words_spec.specs.Names.{option_start}
use Rattle.collector_top.proofs.words.option_rest.Goals as goal

pub returns : goal.returns
unfolding option_start
returns c = rest_stripped option_start c.args.word.now c.strip_prefix.result c.strip_prefix.ensures.cases
