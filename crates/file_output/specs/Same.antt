-- The two tests of equal definitions, of the code and of the definitions, are one.
use Rattle.std.specs.Prelude.{◌≡◌, true}
use Rattle.std.specs.Cmp.{both_ways, IsEquivalence, IsPartialEquivalence, partial_equiv_from_equiv}
use Rattle.std.proofs.Common.{subst}
use Rattle.wire_spec.specs.Content.{Definition}
use Rattle.template_def.specs.Same as code
use Rattle.template_spec.specs.Same.{same_definition}
use Rattle.template_spec.proofs.SameLemmas.{same_own, same_true}

pub tests_agree : (a b : Definition) → code.same_definition a b ≡ same_definition a b
tests_agree a b = both_ways (code.same_definition a b) (same_definition a b)
    (λ e. subst (λ (d : Definition). same_definition a d ≡ true) ((code.definition_Decides a b).0 e) (same_own a))
    (λ e. (code.definition_Decides a b).1 (same_true a b e))

pub tests_are_one : code.same_definition ≡ same_definition
tests_are_one = λ i a b. tests_agree a b i

pub equivalence : IsEquivalence same_definition
equivalence = subst IsEquivalence tests_are_one code.equivalence

pub partial_equivalence : IsPartialEquivalence same_definition
partial_equivalence = partial_equiv_from_equiv equivalence
