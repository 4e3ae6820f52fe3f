use Rattle.wire_spec.proofs.TimedLemmas.{source_at_100_says, destination_at_200_says, next_hop_at_120_says, data_at_150_says, data_at_199_says, data_at_200_says, data_at_119_says, data_at_99_says, data_at_1900_says, data_at_1901_says, source_at_5000_says, flow_at_3200_says, other_at_3199_says, other_data_at_3200_says, in_domain_2_says, in_domain_4_says}
use Rattle.wire_spec.proofs.example.messages_of_several_times_and_domains_say_what_they_say.Goals as goal

pub returns : goal.returns
returns c = record { source_at_100 = source_at_100_says; destination_at_200 = destination_at_200_says; next_hop_at_120 = next_hop_at_120_says; data_at_150 = data_at_150_says; data_at_199 = data_at_199_says; data_at_200 = data_at_200_says; data_at_119 = data_at_119_says; data_at_99 = data_at_99_says; data_at_1900 = data_at_1900_says; data_at_1901 = data_at_1901_says; source_at_5000 = source_at_5000_says; flow_at_3200 = flow_at_3200_says; other_at_3199 = other_at_3199_says; other_data_at_3200 = other_data_at_3200_says; in_domain_2 = in_domain_2_says; in_domain_4 = in_domain_4_says }
