use Rattle.prepared_lines.proofs.ShapeLemmas.{shaped, Ipv4Address_4, Unsigned8_1, Unsigned16_1, Unsigned16_2, Unsigned32_1, Unsigned32_2, Unsigned32_4, Unsigned64_1, Unsigned64_2, Unsigned64_4, Unsigned64_8, DateTimeMilliseconds_8}
use Rattle.prepared_lines.proofs.shape.shape_of.Goals as goal

pub returns-in-Ipv4Address-eq4 : goal.returns-in-Ipv4Address-eq4
returns-in-Ipv4Address-eq4 c = shaped _ _ _ _ _ c.in-Ipv4Address-eq4.is-0 c.in-Ipv4Address-eq4.is-1 Ipv4Address_4

pub returns-in-Unsigned8-eq1 : goal.returns-in-Unsigned8-eq1
returns-in-Unsigned8-eq1 c = shaped _ _ _ _ _ c.in-Unsigned8-eq1.is-0 c.in-Unsigned8-eq1.is-1 Unsigned8_1

pub returns-in-Unsigned16-eq1 : goal.returns-in-Unsigned16-eq1
returns-in-Unsigned16-eq1 c = shaped _ _ _ _ _ c.in-Unsigned16-eq1.is-0 c.in-Unsigned16-eq1.is-1 Unsigned16_1

pub returns-in-Unsigned16-eq2 : goal.returns-in-Unsigned16-eq2
returns-in-Unsigned16-eq2 c = shaped _ _ _ _ _ c.in-Unsigned16-eq2.is-0 c.in-Unsigned16-eq2.is-1 Unsigned16_2

pub returns-in-Unsigned32-eq1 : goal.returns-in-Unsigned32-eq1
returns-in-Unsigned32-eq1 c = shaped _ _ _ _ _ c.in-Unsigned32-eq1.is-0 c.in-Unsigned32-eq1.is-1 Unsigned32_1

pub returns-in-Unsigned32-eq2 : goal.returns-in-Unsigned32-eq2
returns-in-Unsigned32-eq2 c = shaped _ _ _ _ _ c.in-Unsigned32-eq2.is-0 c.in-Unsigned32-eq2.is-1 Unsigned32_2

pub returns-in-Unsigned32-eq4 : goal.returns-in-Unsigned32-eq4
returns-in-Unsigned32-eq4 c = shaped _ _ _ _ _ c.in-Unsigned32-eq4.is-0 c.in-Unsigned32-eq4.is-1 Unsigned32_4

pub returns-in-Unsigned64-eq1 : goal.returns-in-Unsigned64-eq1
returns-in-Unsigned64-eq1 c = shaped _ _ _ _ _ c.in-Unsigned64-eq1.is-0 c.in-Unsigned64-eq1.is-1 Unsigned64_1

pub returns-in-Unsigned64-eq2 : goal.returns-in-Unsigned64-eq2
returns-in-Unsigned64-eq2 c = shaped _ _ _ _ _ c.in-Unsigned64-eq2.is-0 c.in-Unsigned64-eq2.is-1 Unsigned64_2

pub returns-in-Unsigned64-eq4 : goal.returns-in-Unsigned64-eq4
returns-in-Unsigned64-eq4 c = shaped _ _ _ _ _ c.in-Unsigned64-eq4.is-0 c.in-Unsigned64-eq4.is-1 Unsigned64_4

pub returns-in-Unsigned64-eq8 : goal.returns-in-Unsigned64-eq8
returns-in-Unsigned64-eq8 c = shaped _ _ _ _ _ c.in-Unsigned64-eq8.is-0 c.in-Unsigned64-eq8.is-1 Unsigned64_8

pub returns-in-DateTimeMilliseconds-eq8 : goal.returns-in-DateTimeMilliseconds-eq8
returns-in-DateTimeMilliseconds-eq8 c = shaped _ _ _ _ _ c.in-DateTimeMilliseconds-eq8.is-0 c.in-DateTimeMilliseconds-eq8.is-1 DateTimeMilliseconds_8
