use Rattle.std.proofs.Common.{not, rules}
use Rattle.std.proofs.lemmas.Fn.{filter_same}
use Rattle.ipfixcol.specs.UsedFiles.{is_named}
use Rattle.ipfixcol.proofs.used_files.leave_out.Goals as goal

pub returns : goal.returns
returns c = filter_same _ (λ file. not (is_named c.args.name.now file)) _ (λ file kept g k. search rules) _ _ c.retain.ensures.filtered
