-- What runs count of messages of several export times, and how many snapshots are in use, from what their sources gave: each
-- message is read by hand, and the rest computed.
use Rattle.std.proofs.Common.{[], ◌∷◌, ◌++◌, refl}
use Rattle.std.specs.Prelude.{Ok}
use Rattle.col_base.specs.declared.base.Transport.TheVariants.{Tcp, Udp}
use Rattle.wire_spec.specs.Examples.{first_template, first_template_message, second_template, second_template_message, two_templates, two_templates_message}
use Rattle.wire_spec.specs.TimedExamples.{data_at_119, data_at_119_message, data_at_150, data_at_150_message, data_at_1900, data_at_1900_message, data_at_1901, data_at_1901_message, data_at_199, data_at_199_message, data_at_200, data_at_200_message, data_at_99, data_at_99_message, destination_at_200, destination_at_200_message, flow_at_3200, flow_at_3200_message, next_hop_at_120, next_hop_at_120_message, other_at_3199, other_at_3199_message, other_data_at_3200, other_data_at_3200_message, source_at_100, source_at_100_message, source_at_5000, source_at_5000_message}
use Rattle.wire_spec.proofs.ExampleLemmas.{first_template_says, second_template_says, two_templates_says}
use Rattle.wire_spec.proofs.TimedLemmas.{data_at_119_says, data_at_150_says, data_at_1900_says, data_at_1901_says, data_at_199_says, data_at_200_says, data_at_99_says, destination_at_200_says, flow_at_3200_says, next_hop_at_120_says, other_at_3199_says, other_data_at_3200_says, source_at_100_says, source_at_5000_says}
use Rattle.arrival_spec.specs.Arrival.Arrival.{SessionOpen, Raw, SessionClose}
use Rattle.arrival_spec.specs.Examples.{over}
use Rattle.arrival_spec.specs.Sessions.{key_of}
use Rattle.arrival_spec.specs.Run.{arrivals_of}
use Rattle.run_spec.specs.Examples.{all_over, from_peer, stream_of}
use Rattle.count_spec.specs.Run.{AreCounts, IsInUse}
use Rattle.count_spec.specs.Examples.{nothing_counted}

pub by_time_counted : AreCounts (all_over Udp) (from_peer (source_at_100 ∷ destination_at_200 ∷ next_hop_at_120 ∷ data_at_150 ∷ data_at_199 ∷ data_at_200 ∷ data_at_119 ∷ data_at_99 ∷ []) ∷ []) (record nothing_counted { sessions = 1; messages = 8; records = 4; skipped = 1; redefined = 2 })
by_time_counted = (record nothing_counted { sessions = 1; messages = 8; records = 4; skipped = 1; redefined = 2 }, nothing_counted, (SessionOpen (key_of 0 0) Udp ∷ Raw (key_of 0 0) (Ok source_at_100_message) ∷ Raw (key_of 0 0) (Ok destination_at_200_message) ∷ Raw (key_of 0 0) (Ok next_hop_at_120_message) ∷ Raw (key_of 0 0) (Ok data_at_150_message) ∷ Raw (key_of 0 0) (Ok data_at_199_message) ∷ Raw (key_of 0 0) (Ok data_at_200_message) ∷ Raw (key_of 0 0) (Ok data_at_119_message) ∷ Raw (key_of 0 0) (Ok data_at_99_message) ∷ SessionClose (key_of 0 0) ∷ [], (refl, ((Ok source_at_100_message, source_at_100_says, refl), ((Ok destination_at_200_message, destination_at_200_says, refl), ((Ok next_hop_at_120_message, next_hop_at_120_says, refl), ((Ok data_at_150_message, data_at_150_says, refl), ((Ok data_at_199_message, data_at_199_says, refl), ((Ok data_at_200_message, data_at_200_says, refl), ((Ok data_at_119_message, data_at_119_says, refl), ((Ok data_at_99_message, data_at_99_says, refl), (refl, tt)))))))))), refl), refl, refl)

pub lifetime_counted : AreCounts (all_over Udp) (from_peer (source_at_100 ∷ data_at_1900 ∷ data_at_1901 ∷ []) ∷ []) (record nothing_counted { sessions = 1; messages = 3; records = 1; skipped = 1 })
lifetime_counted = (record nothing_counted { sessions = 1; messages = 3; records = 1; skipped = 1 }, nothing_counted, (SessionOpen (key_of 0 0) Udp ∷ Raw (key_of 0 0) (Ok source_at_100_message) ∷ Raw (key_of 0 0) (Ok data_at_1900_message) ∷ Raw (key_of 0 0) (Ok data_at_1901_message) ∷ SessionClose (key_of 0 0) ∷ [], (refl, ((Ok source_at_100_message, source_at_100_says, refl), ((Ok data_at_1900_message, data_at_1900_says, refl), ((Ok data_at_1901_message, data_at_1901_says, refl), (refl, tt))))), refl), refl, refl)

pub late_counted : AreCounts (all_over Udp) (from_peer (source_at_5000 ∷ flow_at_3200 ∷ other_at_3199 ∷ other_data_at_3200 ∷ []) ∷ []) (record nothing_counted { sessions = 1; messages = 3; records = 1; late = 1; skipped = 1 })
late_counted = (record nothing_counted { sessions = 1; messages = 3; records = 1; late = 1; skipped = 1 }, nothing_counted, (SessionOpen (key_of 0 0) Udp ∷ Raw (key_of 0 0) (Ok source_at_5000_message) ∷ Raw (key_of 0 0) (Ok flow_at_3200_message) ∷ Raw (key_of 0 0) (Ok other_at_3199_message) ∷ Raw (key_of 0 0) (Ok other_data_at_3200_message) ∷ SessionClose (key_of 0 0) ∷ [], (refl, ((Ok source_at_5000_message, source_at_5000_says, refl), ((Ok flow_at_3200_message, flow_at_3200_says, refl), ((Ok other_at_3199_message, other_at_3199_says, refl), ((Ok other_data_at_3200_message, other_data_at_3200_says, refl), (refl, tt)))))), refl), refl, refl)

pub first_in_use : IsInUse (all_over Tcp) (arrivals_of (over Tcp) 0 (stream_of (first_template ++ second_template ++ first_template))) 1 1 0
first_in_use = (SessionOpen (key_of 0 0) Tcp ∷ Raw (key_of 0 0) (Ok first_template_message) ∷ Raw (key_of 0 0) (Ok second_template_message) ∷ Raw (key_of 0 0) (Ok first_template_message) ∷ SessionClose (key_of 0 0) ∷ [], (refl, ((Ok first_template_message, first_template_says, refl), ((Ok second_template_message, second_template_says, refl), ((Ok first_template_message, first_template_says, refl), (refl, tt))))), refl)

pub second_in_use : IsInUse (all_over Tcp) (arrivals_of (over Tcp) 0 (stream_of (first_template ++ second_template ++ first_template))) 2 1 0
second_in_use = (SessionOpen (key_of 0 0) Tcp ∷ Raw (key_of 0 0) (Ok first_template_message) ∷ Raw (key_of 0 0) (Ok second_template_message) ∷ Raw (key_of 0 0) (Ok first_template_message) ∷ SessionClose (key_of 0 0) ∷ [], (refl, ((Ok first_template_message, first_template_says, refl), ((Ok second_template_message, second_template_says, refl), ((Ok first_template_message, first_template_says, refl), (refl, tt))))), refl)

pub third_in_use : IsInUse (all_over Tcp) (arrivals_of (over Tcp) 0 (stream_of (first_template ++ second_template ++ first_template))) 3 1 0
third_in_use = (SessionOpen (key_of 0 0) Tcp ∷ Raw (key_of 0 0) (Ok first_template_message) ∷ Raw (key_of 0 0) (Ok second_template_message) ∷ Raw (key_of 0 0) (Ok first_template_message) ∷ SessionClose (key_of 0 0) ∷ [], (refl, ((Ok first_template_message, first_template_says, refl), ((Ok second_template_message, second_template_says, refl), ((Ok first_template_message, first_template_says, refl), (refl, tt))))), refl)

pub first_of_one_message_in_use : IsInUse (all_over Tcp) (arrivals_of (over Tcp) 0 (stream_of two_templates)) 1 1 0
first_of_one_message_in_use = (SessionOpen (key_of 0 0) Tcp ∷ Raw (key_of 0 0) (Ok two_templates_message) ∷ SessionClose (key_of 0 0) ∷ [], (refl, ((Ok two_templates_message, two_templates_says, refl), (refl, tt))), refl)

pub second_of_one_message_in_use : IsInUse (all_over Tcp) (arrivals_of (over Tcp) 0 (stream_of two_templates)) 1 3 1
second_of_one_message_in_use = (SessionOpen (key_of 0 0) Tcp ∷ Raw (key_of 0 0) (Ok two_templates_message) ∷ SessionClose (key_of 0 0) ∷ [], (refl, ((Ok two_templates_message, two_templates_says, refl), (refl, tt))), refl)
