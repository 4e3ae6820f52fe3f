-- Which messages come to an output.
use Rattle.std.specs.Prelude.{Bool, true}
use Rattle.config_spec.specs.declared.domains.DomainSet.{DomainSet}
use Rattle.result_spec.specs.Through.{is_for}
use Rattle.pipeline_message.specs.declared.message.Msg.{Msg}
use Rattle.pipeline_message.specs.declared.message.Msg.TheVariants.{SessionMsg, DataMsg, Periodic, Terminate}
use Rattle.pipeline_message.specs.Items.{data_of}

-- a message of records goes where its item is one of the output's, and all others go to each output
abbrev pub goes_to : DomainSet → Msg → Bool
goes_to domains (DataMsg m) = is_for domains (data_of m.value)
goes_to domains (SessionMsg note) = true
goes_to domains (Periodic input seconds) = true
goes_to domains Terminate = true
