use Rattle.template_spec.specs.Valid.{valid}
use Rattle.template_spec.proofs.TakenLemmas.{new_back, new_from, redefined_back, redefined_from, same_back, same_from}
use Rattle.template_spec.proofs.taken.a_definition_is_taken_by_the_valid_one.Goals as goal

pub returns : goal.returns
returns c = record {
  new = λ transport life past time id definition e. new_from definition (valid transport life past time id) e;
  same = λ transport life past time id definition e. same_from definition (valid transport life past time id) e;
  redefined = λ transport life past time id found definition e other. redefined_from definition (valid transport life past time id) found e other;
  new_alone = λ transport life past time id definition e. new_back definition (valid transport life past time id) e;
  same_alone = λ transport life past time id definition e. same_back definition (valid transport life past time id) e;
  redefined_alone = λ transport life past time id definition e. redefined_back definition (valid transport life past time id) e;
}
