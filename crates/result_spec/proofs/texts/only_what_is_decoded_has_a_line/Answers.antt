use Rattle.result_spec.proofs.TextLemmas.{torn_text, malformed_text, broken_text, octet_by_octet_text, withdrawn_text, not_over_udp_text}
use Rattle.result_spec.proofs.texts.only_what_is_decoded_has_a_line.Goals as goal

pub returns : goal.returns
returns c = record { torn = torn_text; malformed = malformed_text; broken = broken_text; octet_by_octet = octet_by_octet_text; withdrawn = withdrawn_text; not_over_udp = not_over_udp_text }
