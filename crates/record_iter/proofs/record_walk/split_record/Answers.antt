use Rattle.std.proofs.Common.{take, drop, sym, ◌∙◌, arith, length-take-le}
use Rattle.std.proofs.lemmas.List.{take-append-drop}
use Rattle.wire_spec.proofs.LeftLemmas.{some_begins, rest_are_records}
use Rattle.wire_spec.proofs.FixedLemmas.{fixed_record}
use Rattle.record_iter.proofs.record_walk.split_record.Goals as goal

pub returns-then-is_fixed-clause-first : goal.returns-then-is_fixed-clause-first
returns-then-is_fixed-clause-first c =
    let o = c.args.octets.now in
    rw c.split_at.ensures.front (fixed_record c.args.fields.now (take c.args.least o) (sym c.requires.fixed ∙ c.if-is_fixed.true) (length-take-le c.args.least o c.requires.longer ∙ c.requires.shortest))

pub returns-then-is_fixed-clause-rest : goal.returns-then-is_fixed-clause-rest
returns-then-is_fixed-clause-rest c =
    let o = c.args.octets.now in
    let first = fixed_record c.args.fields.now (take c.args.least o) (sym c.requires.fixed ∙ c.if-is_fixed.true) (length-take-le c.args.least o c.requires.longer ∙ c.requires.shortest) in
    rw c.split_at.ensures.back (rest_are_records c.args.fields.now o (take c.args.least o) (drop c.args.least o) (omega arith) (sym (take-append-drop c.args.least o)) first c.requires.whole)

pub returns-in-Some-clause-rest : goal.returns-in-Some-clause-rest
returns-in-Some-clause-rest c =
    let o = c.args.octets.now in
    let n = c.in-Some.count in
    rw c.split_at-in-Some.ensures.back (rest_are_records c.args.fields.now o (take n o) (drop n o) (omega arith) (sym (take-append-drop n o)) c.in-Some.ensures.item c.requires.whole)

pub returns-in-None-clause-joined : goal.returns-in-None-clause-joined
returns-in-None-clause-joined c = absurd (some_begins c.args.fields.now c.args.octets.now (omega arith) (omega arith) c.requires.whole c.in-None.ensures)

pub returns-in-None-clause-first : goal.returns-in-None-clause-first
returns-in-None-clause-first c = absurd (some_begins c.args.fields.now c.args.octets.now (omega arith) (omega arith) c.requires.whole c.in-None.ensures)

pub returns-in-None-clause-shorter : goal.returns-in-None-clause-shorter
returns-in-None-clause-shorter c = absurd (some_begins c.args.fields.now c.args.octets.now (omega arith) (omega arith) c.requires.whole c.in-None.ensures)
