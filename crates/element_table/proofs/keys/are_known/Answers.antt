use Rattle.std.proofs.Common.{arith, ◌≡◌, ◌∙◌, sym, true, false, string_bytes}
use Rattle.std.proofs.lemmas.Map.Iter.{rest_more, rest_all}
use Rattle.std.specs.List.{list_any}
use Rattle.std.specs.Str.{bytes_eq}
use Rattle.std.specs.Map.Iter.{deref_pair}
use Rattle.element_spec.specs.Words.{word_of}
use Rattle.element_table.proofs.KnownLemmas.{unknown_here, known_here, known_all}
use Rattle.element_table.proofs.keys.are_known.Goals as goal

pub returns-then-not-is_known : goal.returns-then-not-is_known
returns-then-not-is_known c =
    let unknown : list_any (λ key. bytes_eq (word_of key) (string_bytes c.in-Some.word.now)) c.args.keys.now ≡ false = grind arith in
    sym (c.loop-word.invariant.2 ∙ unknown_here _ _ _ _ (rest_more deref_pair _ _ _ (c.in-Some.word, c.in-Some.field-0-1) c.in-Some.is c.next.ensures.steps) unknown)

pub loop-word-preserved : goal.loop-word-preserved
loop-word-preserved c =
    let known : list_any (λ key. bytes_eq (word_of key) (string_bytes c.in-Some.word.now)) c.args.keys.now ≡ true = grind arith in
    (tt, tt, c.loop-word.invariant.2 ∙ known_here _ _ _ _ (rest_more deref_pair _ _ _ (c.in-Some.word, c.in-Some.field-0-1) c.in-Some.is c.next.ensures.steps) known)

pub returns : goal.returns
returns c = sym (c.loop-word.invariant.2 ∙ known_all _ _ (rest_all deref_pair _ _ _ c.in-None.is c.next.ensures.steps))
