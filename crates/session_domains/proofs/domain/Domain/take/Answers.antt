use Rattle.std.proofs.Common.{refl, sym, ◌∙◌}
use Rattle.ipfix_reader.specs.Octets.{octets_of}
use Rattle.session_domains.proofs.DomainLemmas.{Arrived, goes_on}
use Rattle.session_domains.proofs.domain.Domain.take.Goals as goal

pub returns : goal.returns
returns c =
    let a = c.arrived.ensures in
    let arrived : Arrived c.args.header.export c.args.self.now.manager c.arrived.new.self = record { stands = a.stands; greatest = a.greatest; transport = a.transport; life = a.life } in
    let found = c.in_ok-found.found in
    goes_on (octets_of c.args.message) c.args.header c.args.self.now (record { manager = c.decode.new.manager; due = found.due }) c.arrived.new.self found
    (record { sets = found.sets; counts = found.counts; lost = c.lost-lost.result; behind = c.is_behind-behind.result }) c.requires arrived (sym c.if-late.false ∙ c.late.ensures) c.in_ok-found.ensures refl refl refl c.lost-lost.ensures
    c.is_behind-behind.ensures
