use Rattle.std.proofs.Common.{◌≡◌, ◌++◌, take}
use Rattle.std.specs.List.{flat_map}
use Rattle.file_output.specs.Sets.{template_in}
use Rattle.file_output.proofs.message.put_templates.Given as goal

abbrev pub invariant-loop-used : goal.invariant-loop-used
invariant-loop-used l = l.out ≡ l.fn.out ++ flat_map (template_in l.head l.known) (take l.used-index l.new)
