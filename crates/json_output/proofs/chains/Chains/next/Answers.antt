use Rattle.std.proofs.Common.{None, ◌∙◌, arith}
use Rattle.json_output.proofs.ChainLemmas.{same_item}
use Rattle.json_output.proofs.chains.Chains.next.Goals as goal

pub index-requires : goal.index-requires
index-requires c = omega (arith, c.requires.chains.long, c.requires.inside)

pub returns : goal.returns
returns c = λ d. c.index.ensures ∙ same_item c.args.self.now.next.items c.args.at _ None (omega (arith, c.requires.chains.long, c.requires.inside)) ∙ c.requires.chains.next c.args.at d c.requires.inside
