use Rattle.count_spec.proofs.EventLemmas.{one_flow_opened, two_templates_opened, defined_anew_opened, not_over_udp_opened, withdrawn_opened, three_domains_opened}
use Rattle.count_spec.proofs.from_events.openings_are_counted.Goals as goal

pub returns : goal.returns
returns c = record { one_flow = one_flow_opened; two_templates = two_templates_opened; defined_anew = defined_anew_opened; not_over_udp = not_over_udp_opened; withdrawn = withdrawn_opened; three_domains = three_domains_opened }
