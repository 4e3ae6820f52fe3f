use Rattle.std.proofs.Common.{◌≡◌, ◌+◌, ◌++◌, take, ap, ◌∙◌, arith}
use Rattle.std.proofs.lemmas.List.{take-take}
use Rattle.value_text.proofs.RowLemmas.{cut}
use Rattle.prepared_lines.proofs.literal.Literal.place.Goals as goal

pub returns-then-self-le-HALF-clause-grown : goal.returns-then-self-le-HALF-clause-grown
returns-then-self-le-HALF-clause-grown c =
    let at = c.args.at in
    let old = c.args.text.now in
    let len = c.self.inside.len in
    let block = c.self.inside.block in
    let half : take (at + 32) c.place_half.new.text ≡ take at old ++ take 32 block = c.place_half.ensures ∙ ap (λ l. take at old ++ l) c.first_half.ensures in
    cut at len 32 old c.place_half.new.text (take 32 block) (omega (arith, c.requires)) c.if-self-le-HALF.true half
    ∙ ap (λ l. take at old ++ l) (take-take len 32 block c.if-self-le-HALF.true ∙ c.self.view_is)

pub returns-clause-grown : goal.returns-clause-grown
returns-clause-grown c =
    let at = c.args.at in
    let old = c.args.text.now in
    cut at c.self.inside.len 64 old c.place_block.new.text c.self.inside.block (omega (arith, c.requires)) c.self.invariant c.place_block.ensures
    ∙ ap (λ l. take at old ++ l) c.self.view_is
