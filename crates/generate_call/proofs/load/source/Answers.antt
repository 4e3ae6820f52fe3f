use Rattle.std.proofs.Common.{[], ◌∷◌, ◌++◌, ap, ◌∙◌}
use Rattle.generate_call.proofs.load.source.Goals as goal

pub returns : goal.returns
returns c = (c.new.result, c.in_ok-push.ensures.items ∙ ap (λ l. l ++ c.new.result ∷ []) c.in_ok-sources.ensures.items, c.new.ensures.left)
