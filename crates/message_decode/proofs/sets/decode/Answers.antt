use Rattle.std.proofs.Common.{◌++◌, ◌∷◌, [], ap, sym, subst, ◌∙◌, rules}
use Rattle.ipfix_reader.specs.Left.{message_walked, sets_left}
use Rattle.ipfix_reader.specs.Walk.{HaveSaid, StandsIn}
use Rattle.message_decode.specs.declared.decoded.Decoded.{Decoded}
use Rattle.ipfix_reader.proofs.WalkLemmas.{said_none, said_more, said_all}
use Rattle.message_decode.proofs.StepLemmas.{takes_none, takes_more, all_found}
use Rattle.message_decode.proofs.sets.decode.Goals as goal

pub loop-set-init : goal.loop-set-init
loop-set-init c =
    let e = c.into_iter-set-iterator.ensures.into_iter_gives in
    let octets = c.args.message.octets.now in
    let start : Decoded = record { sets = c.new.result; counts = c.none.result; due = c.due_first.result } in (
      start,
      [],
      record { sets = search rules; counts = c.none.ensures; due = c.due_first.ensures },
      subst (λ l. HaveSaid octets l []) (sym (ap sets_left e ∙ c.sets-set-items.ensures.rest)) (said_none octets),
      ap message_walked e ∙ c.sets-set-items.ensures.message,
      takes_none c.args.header.export octets c.args.manager.now start,
    )

pub loop-set-preserved : goal.loop-set-preserved
loop-set-preserved c =
    let i = c.loop-set.invariant in
    let t = c.in_ok-take_set.ensures in
    let steps = c.in-Some.ensures.steps in
    (i.0, i.1 ++ t.0 ∷ [], i.2, said_more (sets_left c.next.new.self) c.next.new.self.at c.in-Some.set t.0 i.3 steps.0.0 t.1, steps.1 ∙ i.4, takes_more i.5 (t.3 c.args.message.octets.now (subst (λ l. StandsIn l c.in-Some.set) i.4 steps.0.1)))

pub returns : goal.returns
returns c =
    let i = c.loop-set.invariant in record {
      keeps = i.5.keeps;
      parts = i.1;
      says = said_all (sets_left c.next.new.self) c.next.new.self.at c.args.message.whole i.3 c.in-None.ensures.steps.0.0;
      gives = λ settings past s. all_found i.2 (i.5.found settings past s);
    }
