use Rattle.std.proofs.Common.{◌≡◌, ℕ, ◌<◌, ◌≤◌, List, length, sym, ◌∙◌, arith, length-take-le}
use Rattle.col_base.specs.Numbers.{be16_at}
use Rattle.ipfix_reader.specs.Walk.{AreSomeSets}
use Rattle.ipfix_reader.proofs.LeftLemmas.{sets_sized, sets_rest, set_body, set_sized}
use Rattle.ipfix_reader.proofs.set_walk.first_set.Goals as goal

-- the first set is inside
inside : (o : List ℕ) (n : ℕ) → 0 < length o → ∥ AreSomeSets o ∥₁ → n ≡ be16_at 2 o → n ≤ length o
inside o n some whole e = rw e (sets_sized o some whole).inside

pub be16-requires : goal.be16-requires
be16-requires c =
    let z = sets_sized c.args.octets.now c.requires.some c.requires.whole in
    let h = z.head in
    omega arith

pub slice_bounds-result-end : goal.slice_bounds-result-end
slice_bounds-result-end c = sym (length-take-le c.be16.result c.args.octets.now (inside c.args.octets.now c.be16.result c.requires.some c.requires.whole c.be16.ensures))

pub returns-clause-least : goal.returns-clause-least
returns-clause-least c =
    let z = sets_sized c.args.octets.now c.requires.some c.requires.whole in
    let least = z.least in
    let size = c.be16.ensures in
    let l = length-take-le c.be16.result c.args.octets.now (inside c.args.octets.now c.be16.result c.requires.some c.requires.whole c.be16.ensures) in
    omega arith

pub returns-clause-sized : goal.returns-clause-sized
returns-clause-sized c = rw c.be16.ensures (set_sized c.args.octets.now (sets_sized c.args.octets.now c.requires.some c.requires.whole))

pub returns-clause-body : goal.returns-clause-body
returns-clause-body c = rw c.be16.ensures (set_body c.args.octets.now c.requires.some c.requires.whole)

pub returns-clause-rest : goal.returns-clause-rest
returns-clause-rest c =
    let l = length-take-le c.be16.result c.args.octets.now (inside c.args.octets.now c.be16.result c.requires.some c.requires.whole c.be16.ensures) in
    rw (l ∙ c.be16.ensures) (sets_rest c.args.octets.now c.requires.some c.requires.whole)
