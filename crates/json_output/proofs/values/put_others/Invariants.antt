use Rattle.std.proofs.Common.{◌++◌, length}
use Rattle.text_spec.specs.Fields.{pair_of}
use Rattle.text_spec.specs.Marks.{comma}
use Rattle.text_spec.specs.Value.{value_text}
use Rattle.json_output.proofs.ChainLemmas.{HaveChain, fields_left}
use Rattle.json_output.proofs.values.put_others.Given as goal

abbrev pub invariant-loop-next : goal.invariant-loop-next
invariant-loop-next l = HaveChain (λ value. comma ++ value_text l.fn.kind value) (pair_of l.fn.field) l.fn.fields l.fn.first l.next l.fn.draft l.draft

abbrev pub decreases-loop-next : goal.decreases-loop-next
decreases-loop-next l = fields_left (length l.fields) l.next
