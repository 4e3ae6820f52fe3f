-- What runs count, from what their sources gave: each message is read by hand, and the rest computed.
use Rattle.std.proofs.Common.{[], ◌∷◌, ◌++◌, refl}
use Rattle.std.specs.Prelude.{Ok, Err}
use Rattle.col_base.specs.declared.base.Transport.TheVariants.{File, Tcp, Udp}
use Rattle.wire_spec.specs.declared.malformed.MalformedKind.TheVariants.{EmptyRecord}
use Rattle.wire_spec.specs.Examples.{data_alone, data_alone_message, empty_template, first_template, first_template_message, one_flow, one_flow_message, second_template, second_template_message, two_templates, two_templates_message, variable_names, variable_names_message, withdrawal, withdrawal_message}
use Rattle.wire_spec.specs.TimedExamples.{in_domain_2, in_domain_2_message, in_domain_4, in_domain_4_message}
use Rattle.wire_spec.proofs.TimedLemmas.{in_domain_2_says, in_domain_4_says}
use Rattle.wire_spec.proofs.ExampleLemmas.{data_alone_says, empty_template_breaks, first_template_says, one_flow_says, second_template_says, two_templates_says, variable_names_says, withdrawal_says}
use Rattle.arrival_spec.specs.Arrival.Arrival.{SessionOpen, Raw, SessionClose}
use Rattle.arrival_spec.specs.Examples.{one_and_a_front, over, two_and_another_version}
use Rattle.arrival_spec.specs.Sessions.{key_of}
use Rattle.arrival_spec.specs.Run.{arrivals_of}
use Rattle.run_spec.specs.Examples.{all_over, from_peer, stream_of}
use Rattle.count_spec.specs.Run.{AreCounts, AreOpens}
use Rattle.count_spec.specs.Examples.{nothing_counted}

pub one_flow_counted : AreCounts (all_over File) (stream_of one_flow ∷ []) (record nothing_counted { sessions = 1; messages = 1; records = 1 })
one_flow_counted = (record nothing_counted { sessions = 1; messages = 1; records = 1 }, nothing_counted, (SessionOpen (key_of 0 0) File ∷ Raw (key_of 0 0) (Ok one_flow_message) ∷ SessionClose (key_of 0 0) ∷ [], (refl, ((Ok one_flow_message, one_flow_says, refl), (refl, tt))), refl), refl, refl)

pub torn_counted : AreCounts (all_over File) (stream_of one_and_a_front ∷ []) (record nothing_counted { sessions = 1; messages = 1; records = 1; torn = 1 })
torn_counted = (record nothing_counted { sessions = 1; messages = 1; records = 1; torn = 1 }, nothing_counted, (SessionOpen (key_of 0 0) File ∷ Raw (key_of 0 0) (Ok one_flow_message) ∷ SessionClose (key_of 0 0) ∷ [], (refl, ((Ok one_flow_message, one_flow_says, refl), (refl, tt))), refl), refl, refl)

pub variable_names_counted : AreCounts (all_over File) (stream_of variable_names ∷ []) (record nothing_counted { sessions = 1; messages = 1; records = 2; skipped = 1 })
variable_names_counted = (record nothing_counted { sessions = 1; messages = 1; records = 2; skipped = 1 }, nothing_counted, (SessionOpen (key_of 0 0) File ∷ Raw (key_of 0 0) (Ok variable_names_message) ∷ SessionClose (key_of 0 0) ∷ [], (refl, ((Ok variable_names_message, variable_names_says, refl), (refl, tt))), refl), refl, refl)

pub empty_template_counted : AreCounts (all_over File) (stream_of empty_template ∷ []) (record nothing_counted { sessions = 1; malformed = 1 })
empty_template_counted = (record nothing_counted { sessions = 1; malformed = 1 }, nothing_counted, (SessionOpen (key_of 0 0) File ∷ Raw (key_of 0 0) (Err (record { kind = EmptyRecord; at = 20 })) ∷ SessionClose (key_of 0 0) ∷ [], (refl, ((Err (record { kind = EmptyRecord; at = 20 }), empty_template_breaks, refl), (refl, tt))), refl), refl, refl)

pub two_templates_counted : AreCounts (all_over File) (stream_of two_templates ∷ []) (record nothing_counted { sessions = 1; messages = 1; records = 2; redefined = 1 })
two_templates_counted = (record nothing_counted { sessions = 1; messages = 1; records = 2; redefined = 1 }, nothing_counted, (SessionOpen (key_of 0 0) File ∷ Raw (key_of 0 0) (Ok two_templates_message) ∷ SessionClose (key_of 0 0) ∷ [], (refl, ((Ok two_templates_message, two_templates_says, refl), (refl, tt))), refl), refl, refl)

pub two_inputs_counted : AreCounts (all_over File) (stream_of (first_template ++ first_template) ∷ stream_of second_template ∷ []) (record nothing_counted { sessions = 2; messages = 3; records = 3; disordered = 1 })
two_inputs_counted = (record nothing_counted { sessions = 1; messages = 2; records = 2; disordered = 1 }, record nothing_counted { sessions = 1; messages = 1; records = 1 }, (SessionOpen (key_of 0 0) File ∷ Raw (key_of 0 0) (Ok first_template_message) ∷ Raw (key_of 0 0) (Ok first_template_message) ∷ SessionClose (key_of 0 0) ∷ [], (refl, ((Ok first_template_message, first_template_says, refl), ((Ok first_template_message, first_template_says, refl), (refl, tt)))), refl), (record nothing_counted { sessions = 1; messages = 1; records = 1 }, nothing_counted, (SessionOpen (key_of 1 0) File ∷ Raw (key_of 1 0) (Ok second_template_message) ∷ SessionClose (key_of 1 0) ∷ [], (refl, ((Ok second_template_message, second_template_says, refl), (refl, tt))), refl), refl, refl), refl)

pub withdrawn_counted : AreCounts (all_over Tcp) (stream_of (one_flow ++ withdrawal ++ data_alone ++ one_flow) ∷ []) (record nothing_counted { sessions = 1; messages = 4; records = 2; skipped = 1 })
withdrawn_counted = (record nothing_counted { sessions = 1; messages = 4; records = 2; skipped = 1 }, nothing_counted, (SessionOpen (key_of 0 0) Tcp ∷ Raw (key_of 0 0) (Ok one_flow_message) ∷ Raw (key_of 0 0) (Ok withdrawal_message) ∷ Raw (key_of 0 0) (Ok data_alone_message) ∷ Raw (key_of 0 0) (Ok one_flow_message) ∷ SessionClose (key_of 0 0) ∷ [], (refl, ((Ok one_flow_message, one_flow_says, refl), ((Ok withdrawal_message, withdrawal_says, refl), ((Ok data_alone_message, data_alone_says, refl), ((Ok one_flow_message, one_flow_says, refl), (refl, tt)))))), refl), refl, refl)

pub not_over_udp_counted : AreCounts (all_over Udp) (from_peer (one_flow ∷ withdrawal ∷ data_alone ∷ one_flow ∷ []) ∷ []) (record nothing_counted { sessions = 1; messages = 4; records = 3; ignored = 1; disordered = 1 })
not_over_udp_counted = (record nothing_counted { sessions = 1; messages = 4; records = 3; ignored = 1; disordered = 1 }, nothing_counted, (SessionOpen (key_of 0 0) Udp ∷ Raw (key_of 0 0) (Ok one_flow_message) ∷ Raw (key_of 0 0) (Ok withdrawal_message) ∷ Raw (key_of 0 0) (Ok data_alone_message) ∷ Raw (key_of 0 0) (Ok one_flow_message) ∷ SessionClose (key_of 0 0) ∷ [], (refl, ((Ok one_flow_message, one_flow_says, refl), ((Ok withdrawal_message, withdrawal_says, refl), ((Ok data_alone_message, data_alone_says, refl), ((Ok one_flow_message, one_flow_says, refl), (refl, tt)))))), refl), refl, refl)

pub broken_counted : AreCounts (all_over Tcp) (stream_of two_and_another_version ∷ []) (record nothing_counted { sessions = 1; messages = 2; records = 2; disordered = 1; broken = 1 })
broken_counted = (record nothing_counted { sessions = 1; messages = 2; records = 2; disordered = 1; broken = 1 }, nothing_counted, (SessionOpen (key_of 0 0) Tcp ∷ Raw (key_of 0 0) (Ok one_flow_message) ∷ Raw (key_of 0 0) (Ok one_flow_message) ∷ SessionClose (key_of 0 0) ∷ [], (refl, ((Ok one_flow_message, one_flow_says, refl), ((Ok one_flow_message, one_flow_says, refl), (refl, tt)))), refl), refl, refl)

pub defined_anew_counted : AreCounts (all_over Tcp) (stream_of (first_template ++ second_template ++ first_template) ∷ []) (record nothing_counted { sessions = 1; messages = 3; records = 3; redefined = 2; disordered = 2 })
defined_anew_counted = (record nothing_counted { sessions = 1; messages = 3; records = 3; redefined = 2; disordered = 2 }, nothing_counted, (SessionOpen (key_of 0 0) Tcp ∷ Raw (key_of 0 0) (Ok first_template_message) ∷ Raw (key_of 0 0) (Ok second_template_message) ∷ Raw (key_of 0 0) (Ok first_template_message) ∷ SessionClose (key_of 0 0) ∷ [], (refl, ((Ok first_template_message, first_template_says, refl), ((Ok second_template_message, second_template_says, refl), ((Ok first_template_message, first_template_says, refl), (refl, tt))))), refl), refl, refl)

pub one_flow_opened : AreOpens (all_over File) (arrivals_of (over File) 0 (stream_of one_flow) ∷ []) 1
one_flow_opened = (1, 0, (SessionOpen (key_of 0 0) File ∷ Raw (key_of 0 0) (Ok one_flow_message) ∷ SessionClose (key_of 0 0) ∷ [], (refl, ((Ok one_flow_message, one_flow_says, refl), (refl, tt))), refl), refl, refl)

pub two_templates_opened : AreOpens (all_over File) (arrivals_of (over File) 0 (stream_of two_templates) ∷ []) 2
two_templates_opened = (2, 0, (SessionOpen (key_of 0 0) File ∷ Raw (key_of 0 0) (Ok two_templates_message) ∷ SessionClose (key_of 0 0) ∷ [], (refl, ((Ok two_templates_message, two_templates_says, refl), (refl, tt))), refl), refl, refl)

pub defined_anew_opened : AreOpens (all_over Tcp) (arrivals_of (over Tcp) 0 (stream_of (first_template ++ second_template ++ first_template)) ∷ []) 3
defined_anew_opened = (3, 0, (SessionOpen (key_of 0 0) Tcp ∷ Raw (key_of 0 0) (Ok first_template_message) ∷ Raw (key_of 0 0) (Ok second_template_message) ∷ Raw (key_of 0 0) (Ok first_template_message) ∷ SessionClose (key_of 0 0) ∷ [], (refl, ((Ok first_template_message, first_template_says, refl), ((Ok second_template_message, second_template_says, refl), ((Ok first_template_message, first_template_says, refl), (refl, tt))))), refl), refl, refl)

pub not_over_udp_opened : AreOpens (all_over Udp) (arrivals_of (over Udp) 0 (from_peer (one_flow ∷ withdrawal ∷ data_alone ∷ one_flow ∷ [])) ∷ []) 1
not_over_udp_opened = (1, 0, (SessionOpen (key_of 0 0) Udp ∷ Raw (key_of 0 0) (Ok one_flow_message) ∷ Raw (key_of 0 0) (Ok withdrawal_message) ∷ Raw (key_of 0 0) (Ok data_alone_message) ∷ Raw (key_of 0 0) (Ok one_flow_message) ∷ SessionClose (key_of 0 0) ∷ [], (refl, ((Ok one_flow_message, one_flow_says, refl), ((Ok withdrawal_message, withdrawal_says, refl), ((Ok data_alone_message, data_alone_says, refl), ((Ok one_flow_message, one_flow_says, refl), (refl, tt)))))), refl), refl, refl)

pub withdrawn_opened : AreOpens (all_over Tcp) (arrivals_of (over Tcp) 0 (stream_of (one_flow ++ withdrawal ++ data_alone ++ one_flow)) ∷ []) 2
withdrawn_opened = (2, 0, (SessionOpen (key_of 0 0) Tcp ∷ Raw (key_of 0 0) (Ok one_flow_message) ∷ Raw (key_of 0 0) (Ok withdrawal_message) ∷ Raw (key_of 0 0) (Ok data_alone_message) ∷ Raw (key_of 0 0) (Ok one_flow_message) ∷ SessionClose (key_of 0 0) ∷ [], (refl, ((Ok one_flow_message, one_flow_says, refl), ((Ok withdrawal_message, withdrawal_says, refl), ((Ok data_alone_message, data_alone_says, refl), ((Ok one_flow_message, one_flow_says, refl), (refl, tt)))))), refl), refl, refl)

pub three_domains_opened : AreOpens (all_over File) (arrivals_of (over File) 0 (stream_of (first_template ++ in_domain_2 ++ in_domain_4)) ∷ []) 3
three_domains_opened = (3, 0, (SessionOpen (key_of 0 0) File ∷ Raw (key_of 0 0) (Ok first_template_message) ∷ Raw (key_of 0 0) (Ok in_domain_2_message) ∷ Raw (key_of 0 0) (Ok in_domain_4_message) ∷ SessionClose (key_of 0 0) ∷ [], (refl, ((Ok first_template_message, first_template_says, refl), ((Ok in_domain_2_message, in_domain_2_says, refl), ((Ok in_domain_4_message, in_domain_4_says, refl), (refl, tt))))), refl), refl, refl)
