use Rattle.std.proofs.Common.{◌≡◌, ◌+◌, length, take}
use Rattle.vx_server.specs.Servers.{listeners}
use Rattle.vx_server.proofs.servers.listener.Given as goal

abbrev pub invariant-loop-server : goal.invariant-loop-server
invariant-loop-server l = l.number ≡ l.before + length (listeners l.place (take l.server-index l.servers))
