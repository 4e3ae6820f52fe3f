use Rattle.std.proofs.Common.{arith, ◌≡◌, ◌∙◌, ◌++◌, true, false, string_bytes}
use Rattle.std.proofs.lemmas.Map.Iter.{rest_more, rest_all}
use Rattle.std.specs.Map.Iter.{deref_pair}
use Rattle.config_spec.specs.Faults.{is_known}
use Rattle.setting_tables.proofs.UnknownLemmas.{sorted_more, unknown_here, known_here, unknown_none}
use Rattle.setting_tables.proofs.walk.keys_are_known.Goals as goal

pub returns-in-Ok-clause-err : goal.returns-in-Ok-clause-err
returns-in-Ok-clause-err c _ =
    let unknown : is_known c.args.rows.now (string_bytes c.in-Some.word.now) ≡ false = grind (arith) in
    let made : c.in-Ok.at ≡ c.args.path.now ++ string_bytes c.in-Some.word.now = grind (arith) in
    c.loop-word.invariant.3 ∙ unknown_here _ _ _ _ _ (rest_more deref_pair _ _ _ (c.in-Some.word, c.in-Some.field-0-1) c.in-Some.is c.next.ensures.steps) c.loop-word.invariant.2 unknown
    ∙ rw made

pub loop-word-preserved : goal.loop-word-preserved
loop-word-preserved c =
    let known : is_known c.args.rows.now (string_bytes c.in-Some.word.now) ≡ true = grind (arith) in
    (tt, tt, sorted_more _ _ _ (rest_more deref_pair _ _ _ (c.in-Some.word, c.in-Some.field-0-1) c.in-Some.is c.next.ensures.steps) c.loop-word.invariant.2, c.loop-word.invariant.3 ∙ known_here _ _ _ _ _ (rest_more deref_pair _ _ _ (c.in-Some.word, c.in-Some.field-0-1) c.in-Some.is c.next.ensures.steps) known)

pub returns-clause-ok : goal.returns-clause-ok
returns-clause-ok c = c.loop-word.invariant.3 ∙ unknown_none _ _ _ (rest_all deref_pair _ _ _ c.in-None.is c.next.ensures.steps)
