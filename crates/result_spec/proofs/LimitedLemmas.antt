-- What comes to a file from another: each message is read by hand, and the rest computed.
use Rattle.std.proofs.Common.{ℕ, List, [], ◌∷◌, refl}
use Rattle.std.specs.Prelude.{Ok}
use Rattle.col_base.specs.declared.base.Transport.TheVariants.{File}
use Rattle.wire_spec.specs.Examples.{first_template_message, second_template_message}
use Rattle.wire_spec.proofs.ExampleLemmas.{first_template_says, second_template_says}
use Rattle.arrival_spec.specs.Arrival.Arrival.{SessionOpen, Raw, SessionClose}
use Rattle.run_spec.specs.Read.{ReadArrival}
use Rattle.run_spec.specs.Work.{items_of}
use Rattle.result_spec.specs.Examples.{in_a}
use Rattle.result_spec.specs.Result.{ComeTo, inputs_of}
use Rattle.result_spec.specs.Limited.{both_flows, four_arrivals, limited, one_source}

pub both_come : (last : ℕ) → ComeTo (limited last) one_source four_arrivals 0 both_flows
both_come last =
    let read : List ReadArrival = SessionOpen in_a File ∷ Raw in_a (Ok first_template_message) ∷ Raw in_a (Ok second_template_message) ∷ SessionClose in_a ∷ [] in
    (items_of (inputs_of (limited last)) read, (read, (refl, ((Ok first_template_message, first_template_says, refl), ((Ok second_template_message, second_template_says, refl), (refl, tt)))), refl), refl)
