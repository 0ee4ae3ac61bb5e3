use Rattle.net_aiger.specs.private.Shared.{AreNoted}
use Rattle.net_aiger.proofs.reader.Reader.shared_ports.Given as goal

-- the names so far are noted
abbrev pub invariant-loop-place : goal.invariant-loop-place
invariant-loop-place l = AreNoted l.self l.ports l.place
