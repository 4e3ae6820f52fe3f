use Rattle.std.proofs.Common.{arith, refl}
use Rattle.wire_spec.proofs.FieldLemmas.{value_begins, rest_is_record}
use Rattle.record_iter.proofs.WalkLemmas.{field_given}
use Rattle.record_iter.proofs.field_walk.FieldsIterator.next.Goals as goal

pub split_value-requires : goal.split_value-requires
split_value-requires c =
    let w = rw c.in-Some.ensures at c.args.self.now.whole in
    value_begins c.in-Some.field c.in-Some.after.now c.args.self.now.rest.now w

pub invariant_of-self : goal.invariant_of-self
invariant_of-self c =
    let w = rw c.in-Some.ensures at c.args.self.now.whole in
    let g = c.split_value.ensures.begins in
    let fits = c.args.self.now.fits in
    let room = c.split_value.ensures.room in
    record {
      fits = omega arith;
      whole = rest_is_record c.in-Some.field c.in-Some.after.now c.args.self.now.rest.now g.first c.split_value.result.1.now c.split_value.result.0.now g.joined g.encoded w;
    }

pub returns-clause-steps : goal.returns-clause-steps
returns-clause-steps c = (
  c.in-Some.field,
  c.in-Some.ensures,
  field_given c.args.self.now.at c.args.self.now.rest.now c.in-Some.field _ _ c.split_value.result.1.now refl c.split_value.ensures.begins c.split_value.ensures.room refl refl,
)
