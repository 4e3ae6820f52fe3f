use Rattle.socket_io.specs.Connections.{Stay}
use Rattle.socket_io.proofs.tcp_sockets.TcpSockets.serve_reported.Given as goal

-- the reports that were dealt with changed nothing
abbrev pub invariant-loop : goal.invariant-loop
invariant-loop l = Stay l.initial.self.connections l.self.connections l.initial.self.accepted l.self.accepted
